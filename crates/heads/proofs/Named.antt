-- A name is tested where its number is read: the definition tests it right after. Assumes nothing.
use mathlib.Core.Path.{◌≡◌, refl}
use mathlib.Core.Bool.{Bool, true, false, not}
use Prim.Native.Nat.{ℕ}
use lib.ListN.{length}
use Rattle.std.specs.Prelude.{if◌then◌else◌}
use Rattle.definition.specs.Types.{TypeName, Multiple, Builtin, ModuleType, AbilityMark, max_builtin, State, Refusal, malformed, unknown_name}
use Rattle.definition.specs.Write.{Bytes}
use Rattle.definition.specs.Reader.{Read, got, not_read, Reader, give, refuse, go_on, ◌>>=◌, byte, read_u16, byte_if, byte_to, name_below}
use Rattle.definition.specs.Trees.{Tree, is_name, read_mark, read_apply}
use Rattle.heads.specs.Fields.{read_args}

-- the number m reads, where it is allowed
abbrev tested : Reader ℕ → (ℕ → Bool) → Refusal → Reader ℕ
tested m allowed x = m >>= (λ n. if allowed n then give n else refuse x)

module _ (s : State) (part : Reader Tree) (loc : ℕ) where
  abbrev pub read_named : Reader ℕ → (ℕ → TypeName) → Reader Tree
  read_named number name = read_mark >>= (λ k. number >>= (λ n. read_args s part loc k (name n)))

  named_is : (number : Reader ℕ) (name : ℕ → TypeName) (x : Refusal) (l : Bytes) → read_apply s part loc number name x l ≡ read_named (tested number (λ n. is_name s (name n)) x) name l
  unfolding read_apply read_args ◌>>=◌ go_on give refuse
  named_is number name x l = go (read_mark l)
    where
      go : (r : Read AbilityMark) → go_on r (λ k. number >>= (λ n. if not (is_name s (name n)) then refuse x else read_args s part loc k (name n))) ≡ go_on r (λ k. tested number (λ n. is_name s (name n)) x >>= (λ n. read_args s part loc k (name n)))
      go (not_read y) = refl
      go (got k m) = at (number m)
        where
          at : (r : Read ℕ) → go_on r (λ n. if not (is_name s (name n)) then refuse x else read_args s part loc k (name n)) ≡ go_on (go_on r (λ n. if is_name s (name n) then give n else refuse x)) (λ n. read_args s part loc k (name n))
          at (not_read y) = refl
          at (got n o) = by (is_name s (name n))
            where
              by : (t : Bool) → (if not t then refuse x else read_args s part loc k (name n)) o ≡ go_on ((if t then give n else refuse x) o) (λ n. read_args s part loc k (name n))
              by true = refl
              by false = refl

  pub builtin_is : (l : Bytes) → read_apply s part loc byte Builtin malformed l ≡ read_named (byte_to max_builtin) Builtin l
  unfolding byte_if is_name
  builtin_is l = named_is byte Builtin malformed l

  pub list_is : (l : Bytes) → read_apply s part loc byte Multiple malformed l ≡ read_named (byte_to 8) Multiple l
  unfolding byte_if is_name
  list_is l = named_is byte Multiple malformed l

  pub struct_is : (l : Bytes) → read_apply s part loc read_u16 ModuleType unknown_name l ≡ read_named (name_below (length s.structs)) ModuleType l
  unfolding name_below is_name
  struct_is l = named_is read_u16 ModuleType unknown_name l
