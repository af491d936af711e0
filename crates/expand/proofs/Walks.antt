-- The walks over a type: where it leads, whether it comes to a mark, its size, and its bytes. Assumes nothing.
use mathlib.Core.Path.{◌≡◌, refl, sym, ap, ◌∙◌}
use mathlib.Core.Bool.{Bool, true, false}
use mathlib.Core.List.{List, [], ◌∷◌, ◌++◌}
use Rattle.std.specs.Prelude.{Option, None, Some, Ok, Err, if◌then◌else◌}
use Prim.Native.Nat.{ℕ, zero, suc, ◌+◌, ◌-◌, ◌≤◌, ◌<◌}
use native.Mathlib.Nat.{not-suc-le-zero}
use native.Mathlib.Decide.{ℕ_discrete, dec_lt}
use native.Mathlib.Omega.{arith}
use lib.ListN.{length, get_or, set as put_at, take, replicate, length-append, length-set, length-replicate}
use lib.Seq.{get_or-set_other, take_all}
use Rattle.definition.specs.Types as d
use Rattle.definition.specs.Types.{Struct, Spanned, TypeValue, already_expanded, ok, refused}
use Rattle.definition.specs.Store.{count, node, get, with_args, spanned, any_of}
use Rattle.definition.specs.Subst.{as_var, parts, forward_tvar, unfold_var, unfold_type, goes_on_to, ends_in, reaches_itself}
use Rattle.definition.specs.Abilities.{all, granted, infer_value, infer, infer_abilities}
use Rattle.definition.specs.Write.{Bytes, mark, u32, apply_head, head, each}
use Rattle.definition.specs.Expand.{uninferred}
use Rattle.theorems.specs.ReadySpelled.{led_var, led}
use Rattle.theorems.proofs.ReadyTold.{led_goes}
use Rattle.theorems.proofs.SolveRules.{those_fit}
use Rattle.theorems.proofs.SolveInferred.{more}
use Rattle.theorems.proofs.SoundFacts.{not_false}
use Rattle.theorems.proofs.DemandOrder.{Sound}
use Rattle.theorems.proofs.DemandTracks.{never}
use Rattle.names.specs.Names.{mark_of, name_of}
use Rattle.names.specs.declared.TVar.{TVar}
use Rattle.table.specs.State.{shape_of, value_of, node_of, Below}
use Rattle.table.specs.Did.{held, tables}
use Rattle.table.specs.Known.{Declared}
use Rattle.table.specs.declared.state.State.{State}
use Rattle.table.specs.declared.Node.{Node}
use Rattle.table.specs.declared.Shape.{Shape}
use Rattle.table.specs.declared.Shape.TheVariants.{Unit as UnitS, Ref, Param, Apply, Var, Anything, UnresolvedError}
use Rattle.table.proofs.Grown.{loc_is, value_is}
use Rattle.table.proofs.Pushed.{count_seen}
use Rattle.refusals.specs.declared.Refusal.TheVariants.{AlreadyExpanded, RunsIntoItself, AnswerTooLong}
use Rattle.ready.specs.Spell.{spelt, too_long, stopped}
use Rattle.shapes.specs.Parts.{next, part_count}
use Rattle.shapes.proofs.Nodes.{at_node, Low, below_low, inside_seen}
use Rattle.subst.proofs.Lists.{zero_at}
use Rattle.ends.specs.Itself.{Goes_on}
use Rattle.ends.specs.Leads.{led_as, LedTo, unfolds_to}
use Rattle.ends.specs.declared.chains.Led.{Led}
use Rattle.ends.specs.declared.chains.Led.TheVariants.{Node as NodeL, Open}
use Rattle.ends.proofs.Itself.{few_parts, unfolded_node}
use Rattle.abilities.specs.Kept.{Knows, HasSet, Kept, Ends}
use Rattle.abilities.proofs.Sets.{some_left, parts_over, no_circle}
use Rattle.writer.specs.Bytes.{Wrote, AllBytes, ByteFields}
use Rattle.writer.proofs.Put.{put_nothing, wrote_wrote, wrote_length}
use Rattle.writer.proofs.Walk.{each_same, each_more, each_in}
use Rattle.writer.proofs.Turns.{bytes_at}
use Rattle.expand.specs.Told.{expanded_bytes, is_marked, marked_in, finally, own, told, set_in}
use Rattle.expand.specs.Walks.{Leads, Comes, Clears, Leaves, Fit, Expands}
use Rattle.expand.proofs.Told.{type_told, bytes_itself}
use Rattle.expand.specs.declared.Half.{Half}
use Rattle.expand.specs.declared.Half.TheVariants.{Types, Codes}

-- ---- where a type leads

pub leads_node : {s : State} {t : ℕ} {r : Led} → LedTo s t r → (x : ℕ) → r ≡ NodeL x → (n : Node) → ((ds : List Struct) → node_of n ≡ node (held s ds) x) → Leads s t n
unfolding spanned
leads_node {s} {t} l x z n e = record {
  is = λ ds. rw (value_is (held s ds) x n (e ds), loc_is (held s ds) x n (e ds)) (ap (λ (y : Led). led_as y (held s ds)) (sym z) ∙ l.is ds);
  few = few_parts (held s []).args x (shape_of n.shape) (below []);
  many = λ ds. (low ds).many;
  inside = λ ds j q. omega (arith, (low ds).low j q, inside);
  bytes = λ b. bytes_at (at_node s.words.now s.used x (part_count (shape_of n.shape)) n s.lay inside e refl) b;
}
  where
    inside : x < s.used.nodes
    inside = unfolded_node l.unfolds.inside (ap unfolds_to z)

    below : (ds : List Struct) → Below (held s ds).args x (shape_of n.shape)
    below ds =
        let k : x < count (held s ds) = rw (count_seen s.words.now s.used ds) inside in
        let v : shape_of n.shape ≡ (node (held s ds) x).value = ap (λ (y : d.Node). y.value) (e ds) in
        rw v ((inside_seen s.words.now s.used ds s.lay).parts x k)

    low : (ds : List Struct) → Low (held s ds) x (shape_of n.shape)
    low ds = below_low (held s ds) x (shape_of n.shape) (below ds)

pub leads_open : {s : State} {t : ℕ} {r : Led} → LedTo s t r → (loc : ℕ) (end : TVar) → r ≡ Open loc end → Leads s t (record { loc = loc; shape = Var end })
unfolding with_args parts
leads_open {s} l loc end z = record {
  is = λ ds. ap (λ (y : Led). led_as y (held s ds)) (sym z) ∙ l.is ds;
  few = omega arith;
  many = λ ds. refl;
  inside = λ ds j q. absurd (not-suc-le-zero q);
  bytes = λ b. tt;
}

-- ---- 17

pub clears_none : (s : State) → Clears s (replicate 2048 0)
clears_none s = record { size = length-replicate {A = ℕ} 2048 0; is = λ t p. absurd (let z = zero_at 2048 t (dec_lt t 2048) in omega arith) }

clears_more : (s : State) (t : ℕ) (clear : List ℕ) → Clears s clear → t < 2048 → Comes s t 0 false → Clears s (put_at clear t 1)
clears_more s t clear c l e = record { size = length-set clear t 1 ∙ c.size; is = λ x p. by x p (ℕ_discrete x t) }
  where
    by : (x : ℕ) → 0 < get_or (put_at clear t 1) x 0 → Dec (x ≡ t) → Comes s x 0 false
    by x p (yes y) = rw y e
    by x p (no y) = c.is x (rw (get_or-set_other clear t x 1 0 y) at p)

-- one level
marked_suc : (n : ℕ) (s : d.State) (t : ℕ) (b : Bool) → is_marked (unfold_type s (spanned s t)).value ≡ b → marked_in (suc n) s t ≡ elim b [ true ↦ true | false ↦ any_of (λ p. marked_in n s p) (goes_on_to s t) ]
unfolding marked_in
marked_suc n s t b e = rw (← e) refl

marked_zero : (s : d.State) (t : ℕ) → marked_in 0 s t ≡ false
unfolding marked_in
marked_zero s t = refl

any_here : (f : ℕ → Bool) (l : List ℕ) (i : ℕ) → i < length l → f (get_or l i 0) ≡ true → any_of f l ≡ true
unfolding any_of
any_here f [] i h e = absurd (not-suc-le-zero h)
any_here f (t ∷ ts) zero h e = rw (e, any_of) refl
any_here f (t ∷ ts) (suc i) h e = later (f t) (any_here f ts i (omega arith) e)
  where
    later : (b : Bool) → any_of f ts ≡ true → (elim b [ true ↦ true | false ↦ any_of f ts ]) ≡ true
    later true z = refl
    later false z = z

any_nowhere : (f : ℕ → Bool) (l : List ℕ) → ((i : ℕ) → i < length l → f (get_or l i 0) ≡ false) → any_of f l ≡ false
unfolding any_of
any_nowhere f [] h = refl
any_nowhere f (t ∷ ts) h = rw (h 0 (omega arith), any_of) (any_nowhere f ts (λ i l. h (suc i) (omega arith)))

-- the parts before i come to none
pub record Passed (s : State) (t left : ℕ) (sh : Shape) (many : ℕ) (clear : List ℕ) (i : ℕ) : Type 0 where
  pub in_nodes : t < s.used.nodes
  pub ends : Ends s left t
  pub goes : Goes_on s t sh
  pub plain : (ds : List Struct) → is_marked (unfold_type (held s ds) (spanned (held s ds) t)).value ≡ false
  pub many_is : many ≡ part_count (shape_of sh)
  pub clears : Clears s clear
  pub passed : (ds : List Struct) (j : ℕ) → j < i → (m : ℕ) → marked_in m (held s ds) (get_or (goes_on_to (held s ds) t) j 0) ≡ false

module _ {s : State} {t : ℕ} {sh : Shape} (g : Goes_on s t sh) (b : Bool) (e : (x : d.State) → b ≡ is_marked (with_args x (shape_of sh))) where
  marked_is : (ds : List Struct) → is_marked (unfold_type (held s ds) (spanned (held s ds) t)).value ≡ b
  marked_is ds = ap is_marked (sym (g.value ds)) ∙ sym (e (held s ds))

  pub comes_here : (left : ℕ) → Ends s left t → b ≡ true → Comes s t left true
  comes_here left n z ds zero l = absurd (let k = some_left s left t n in omega arith)
  comes_here left n z ds (suc m) l = marked_suc m (held s ds) t true (marked_is ds ∙ z)

  pub passed_none : {left many : ℕ} {clear : List ℕ} → t < s.used.nodes → Ends s left t → b ≡ false → many ≡ part_count (shape_of sh) → Clears s clear → Passed s t left sh many clear 0
  passed_none i n z m c = record { in_nodes = i; ends = n; goes = g; plain = λ ds. marked_is ds ∙ z; many_is = m; clears = c; passed = λ ds j p. absurd (not-suc-le-zero p) }

module _ {s : State} {t left : ℕ} {sh : Shape} {many i : ℕ} {clear : List ℕ} (h : Passed s t left sh many clear i) where
  module _ (p : ℕ) (l : i < many) (e : (ds : List Struct) → i < part_count (shape_of sh) → p ≡ get_or (parts (with_args (held s ds) (shape_of sh))) i 0) where
    counted : i < part_count (shape_of sh)
    counted = rw (← h.many_is) l

    part_is : (ds : List Struct) → p ≡ get_or (goes_on_to (held s ds) t) i 0
    part_is ds = e ds counted ∙ ap (λ (x : List ℕ). get_or x i 0) (h.goes.is ds)

    pub passed_part : p < s.used.nodes
    passed_part = rw (part_is []) (h.goes.inside [] i counted)

    pub passed_ends : Ends s (left - 1) p
    passed_ends = record {
      few = omega (arith, h.ends.few);
      over = λ ds m q. rw (part_is ds) (parts_over (held s ds) m t i (rw (h.goes.many ds) counted) (h.ends.over ds (suc m) (omega arith)));
    }

    -- part i comes to one
    pub passed_one : Comes s p (left - 1) true → Comes s t left true
    passed_one c ds zero k = absurd (let n = some_left s left t h.ends in omega arith)
    passed_one c ds (suc m) k = marked_suc m (held s ds) t false (h.plain ds) ∙ any_here (λ q. marked_in m (held s ds) q) (goes_on_to (held s ds) t) i (rw (h.goes.many ds) counted) (rw (← part_is ds) (c ds m (omega arith)))

    pub passed_more : {clear' : List ℕ} → Comes s p (left - 1) false → Clears s clear' → Passed s t left sh many clear' (i + 1)
    passed_more c k = record { in_nodes = h.in_nodes; ends = h.ends; goes = h.goes; plain = h.plain; many_is = h.many_is; clears = k; passed = λ ds j q m. by ds j q m (ℕ_discrete j i) }
      where
        by : (ds : List Struct) (j : ℕ) → j < i + 1 → (m : ℕ) → Dec (j ≡ i) → marked_in m (held s ds) (get_or (goes_on_to (held s ds) t) j 0) ≡ false
        by ds j q m (yes y) = rw (y, ← part_is ds) (c ds m)
        by ds j q m (no y) = h.passed ds j (omega arith) m

  pub passed_all : many ≤ i → Comes s t left false
  passed_all l ds zero = marked_zero (held s ds) t
  passed_all l ds (suc m) = marked_suc m (held s ds) t false (h.plain ds) ∙ any_nowhere (λ q. marked_in m (held s ds) q) (goes_on_to (held s ds) t) (λ j k. h.passed ds j (omega (arith, h.goes.many ds, h.many_is)) m)

  pub passed_clears : many ≤ i → Clears s (put_at clear t 1)
  passed_clears l = clears_more s t clear h.clears (omega (arith, h.in_nodes, s.lay.nodes)) (passed_all l)

-- the answer, in as many levels as there are nodes
pub comes_is : (s : State) (t n : ℕ) (b : Bool) → Comes s t n b → (ds : List Struct) → b ≡ marked_in n (held s ds) t
comes_is s t n true c ds = sym (c ds n (omega arith))
comes_is s t n false c ds = sym (c ds n)

-- ---- a type without its parts

-- what it is does not depend on the parts
final_apply : (set l : ℕ) (k : d.AbilityMark) (n : d.TypeName) (tys tys' : List ℕ) → head l (finally set (d.Apply k n tys)) ≡ head l (finally set (d.Apply k n tys'))
unfolding head finally
final_apply set l None n tys tys' = refl
final_apply set l (Some k) n tys tys' = refl

own_same : (half : Half) (set l : ℕ) (s : d.State) (h : Shape) → own half set (record { loc = l; value = with_args s (shape_of h) }) ≡ own half set (record { loc = l; value = value_of h })
unfolding own with_args as_var
own_same Types set l s UnitS = refl
own_same Types set l s (Ref m t) = refl
own_same Types set l s (Param id a) = refl
own_same Types set l s (Apply a) = final_apply set l _ _ _ _
own_same Types set l s (Var v) = refl
own_same Types set l s Anything = refl
own_same Types set l s UnresolvedError = refl
own_same Codes set l s UnitS = refl
own_same Codes set l s (Ref m t) = refl
own_same Codes set l s (Param id a) = refl
own_same Codes set l s (Apply a) = refl
own_same Codes set l s (Var v) = refl
own_same Codes set l s Anything = refl
own_same Codes set l s UnresolvedError = refl

-- how long it is
final_long : (set l : ℕ) (h : Shape) → as_var (value_of h) ≡ None → length (head l (value_of h)) ≡ length (head l (finally set (value_of h)))
unfolding head finally as_var apply_head u32
final_long set l UnitS e = refl
final_long set l (Ref m t) e = refl
final_long set l (Param id a) e = refl
final_long set l (Apply a) e = applied (mark_of a.k) (name_of a.n)
  where
    applied : (k : d.AbilityMark) (n : d.TypeName) → length (head l (d.Apply k n [])) ≡ length (head l (finally set (d.Apply k n [])))
    applied (Some k) n = refl
    applied None (d.Multiple m) = refl
    applied None (d.Builtin b) = refl
    applied None (d.ModuleType m) = refl
final_long set l (Var v) e = never (cc)
final_long set l Anything e = refl
final_long set l UnresolvedError e = refl

value_var : (s : d.State) (h : Shape) → as_var (with_args s (shape_of h)) ≡ as_var (value_of h)
unfolding with_args as_var
value_var s UnitS = refl
value_var s (Ref m t) = refl
value_var s (Param id a) = refl
value_var s (Apply a) = refl
value_var s (Var v) = refl
value_var s Anything = refl
value_var s UnresolvedError = refl

-- of so many bytes, whatever the set and the location are
abbrev pub Owns : Shape → ℕ → Type 0
Owns sh size = (set l : ℕ) → size ≡ length (own Types set (record { loc = l; value = value_of sh })) + length (own Codes set (record { loc = l; value = value_of sh }))

module _ (sh : Shape) (r : Option TVar) (a : (x : d.State) → next r ≡ as_var (with_args x (shape_of sh))) where
  var_is : as_var (value_of sh) ≡ next r
  var_is = sym (value_var d.fresh sh) ∙ sym (a d.fresh)

  -- its code
  pub codes_none : r ≡ None → (set l : ℕ) → own Codes set (record { loc = l; value = value_of sh }) ≡ []
  unfolding own
  codes_none z set l = rw (var_is ∙ ap next z, own) refl

  pub codes_var : (v : TVar) → r ≡ Some v → (set l : ℕ) → own Codes set (record { loc = l; value = value_of sh }) ≡ uninferred l
  unfolding own
  codes_var v z set l = rw (var_is ∙ ap next z, own) refl

  pub owns_plain : r ≡ None → (size : ℕ) → ((l : ℕ) → size ≡ length (head l (value_of sh))) → Owns sh size
  unfolding own
  owns_plain z size e set l = let c = ap length (codes_none z set l) in omega (arith, e l, final_long set l sh (var_is ∙ ap next z), c)

  pub owns_var : (v : TVar) → r ≡ Some v → Owns sh 10
  unfolding own as_var finally head uninferred u32
  owns_var v z set l = by sh (var_is ∙ ap next z)
    where
      by : (h : Shape) → as_var (value_of h) ≡ Some v.0 → 10 ≡ length (own Types set (record { loc = l; value = value_of h })) + length (own Codes set (record { loc = l; value = value_of h }))
      by UnitS e = never (cc)
      by (Ref m t) e = never (cc)
      by (Param id a) e = never (cc)
      by (Apply a) e = never (cc)
      by (Var w) e = refl
      by Anything e = never (cc)
      by UnresolvedError e = never (cc)

-- ---- a type with its parts

module _ {s : State} {t : ℕ} {n : Node} (h : Leads s t n) (ds : List Struct) where
  abbrev here : Spanned TypeValue
  here = led (held s ds) (spanned (held s ds) t)

  here_parts : parts (with_args (held s ds) (shape_of n.shape)) ≡ parts here.value
  here_parts = ap (λ (x : Spanned TypeValue). parts x.value) (h.is ds)

  pub here_many : length (parts here.value) ≡ part_count (shape_of n.shape)
  here_many = sym (ap length here_parts) ∙ h.many ds

  own_here : (half : Half) (set : ℕ) → own half set (record { loc = n.loc; value = value_of n.shape }) ≡ own half set here
  own_here half set = sym (own_same half set n.loc (held s ds) n.shape) ∙ ap (own half set) (h.is ds)

  level_is : (half : Half) (set : ℕ → ℕ) (left below : ℕ) → left ≡ suc below → told half set left (held s ds) t ≡ own half (set t) (record { loc = n.loc; value = value_of n.shape }) ++ each (λ p. told half set below (held s ds) p) (parts here.value)
  unfolding told
  level_is half set left below e = rw e (ap (λ (b : Bytes). b ++ each (λ p. told half set below (held s ds) p) (parts here.value)) (sym (own_here half (set t))))

module _ {s : State} {t many : ℕ} {n : Node} (h : Leads s t n) (many_is : many ≡ part_count (shape_of n.shape)) where
  module _ {i : ℕ} (p : ℕ) (l : i < many) (e : (ds : List Struct) → i < part_count (shape_of n.shape) → p ≡ get_or (parts (with_args (held s ds) (shape_of n.shape))) i 0) where
    counted_here : i < part_count (shape_of n.shape)
    counted_here = rw (← many_is) l

    part_here : (ds : List Struct) → p ≡ get_or (parts (here h ds).value) i 0
    part_here ds = e ds counted_here ∙ ap (λ (x : List ℕ). get_or x i 0) (here_parts h ds)

    pub leads_part : p < s.used.nodes
    leads_part = rw (e [] counted_here) (h.inside [] i counted_here)

    one_more : (half : Half) (set : ℕ → ℕ) (below : ℕ) (ds : List Struct) → each (λ q. told half set below (held s ds) q) (take (i + 1) (parts (here h ds).value)) ≡ each (λ q. told half set below (held s ds) q) (take i (parts (here h ds).value)) ++ told half set below (held s ds) p
    one_more half set below ds = each_more (λ q. told half set below (held s ds) q) (parts (here h ds).value) i (rw (here_many h ds) counted_here) ∙ ap (λ (q : ℕ). each (λ q. told half set below (held s ds) q) (take i (parts (here h ds).value)) ++ told half set below (held s ds) q) (sym (part_here ds))

  all_parts : {i : ℕ} → many ≤ i → (ds : List Struct) → take i (parts (here h ds).value) ≡ parts (here h ds).value
  all_parts {i} l ds = take_all i (parts (here h ds).value) (omega (arith, here_many h ds, many_is))

-- ---- sizes

-- the bytes of the parts before i, of both halves
abbrev both : (ℕ → ℕ) → ℕ → d.State → List ℕ → ℕ
both set below s ps = length (each (λ q. told Types set below s q) ps) + length (each (λ q. told Codes set below s q) ps)

-- of both halves of a type
abbrev pub Long : (ℕ → ℕ) → ℕ → d.State → ℕ → ℕ
Long set left s t = length (told Types set left s t) + length (told Codes set left s t)

told_zero : (half : Half) (set : ℕ → ℕ) (left : ℕ) (s : d.State) (t : ℕ) → left ≡ 0 → told half set left s t ≡ []
unfolding told
told_zero half set left s t e = rw e refl

pub leaves_zero : (s : State) (t left room : ℕ) → left ≡ 0 → (ds : List Struct) (set : ℕ → ℕ) → Leaves room (Long set left (held s ds) t) (Some room)
leaves_zero s t left room e ds set = rw (told_zero Types set left (held s ds) t e, told_zero Codes set left (held s ds) t e) (omega arith)

-- own bytes and those of the parts before i leave so much
pub record Sizing (s : State) (t below room : ℕ) (sh : Shape) (rest i : ℕ) : Type 0 where
  pub own : ℕ
  pub own_is : Owns sh own
  pub left : (ds : List Struct) (set : ℕ → ℕ) → own + both set below (held s ds) (take i (parts (led (held s ds) (spanned (held s ds) t)).value)) + rest ≡ room

module _ {s : State} {t left below : ℕ} {n : Node} (h : Leads s t n) (y : left ≡ suc below) (size : ℕ) (o : Owns n.shape size) where
  long_is : (ds : List Struct) (set : ℕ → ℕ) → Long set left (held s ds) t ≡ size + both set below (held s ds) (parts (led (held s ds) (spanned (held s ds) t)).value)
  long_is ds set =
      let a = ap length (level_is h ds Types set left below y) in
      let b = ap length (level_is h ds Codes set left below y) in
      omega (
        arith,
        a,
        b,
        o (set t) n.loc,
        length-append (own Types (set t) (record { loc = n.loc; value = value_of n.shape })) (each (λ p. told Types set below (held s ds) p) (parts (led (held s ds) (spanned (held s ds) t)).value)),
        length-append (own Codes (set t) (record { loc = n.loc; value = value_of n.shape })) (each (λ p. told Codes set below (held s ds) p) (parts (led (held s ds) (spanned (held s ds) t)).value)),
      )

  pub leaves_none : (room : ℕ) → room < size → (ds : List Struct) (set : ℕ → ℕ) → Leaves room (Long set left (held s ds) t) None
  leaves_none room l ds set = omega (arith, l, long_is ds set)

  pub sizing_none : (room rest : ℕ) → rest + size ≡ room → Sizing s t below room n.shape rest 0
  unfolding each
  sizing_none room rest e = record { own = size; own_is = o; left = λ ds set. omega (arith, e) }

module _ {s : State} {t left below room many rest i : ℕ} {n : Node} (h : Leads s t n) (y : left ≡ suc below) (many_is : many ≡ part_count (shape_of n.shape)) (z : Sizing s t below room n.shape rest i) where
  module _ (p : ℕ) (l : i < many) (e : (ds : List Struct) → i < part_count (shape_of n.shape) → p ≡ get_or (parts (with_args (held s ds) (shape_of n.shape))) i 0) where
    more_by : (ds : List Struct) (set : ℕ → ℕ) → both set below (held s ds) (take (i + 1) (parts (led (held s ds) (spanned (held s ds) t)).value)) ≡ both set below (held s ds) (take i (parts (led (held s ds) (spanned (held s ds) t)).value)) + Long set below (held s ds) p
    more_by ds set =
        let ps = take i (parts (led (held s ds) (spanned (held s ds) t)).value) in
        let a = ap length (one_more h many_is p l e Types set below ds) ∙ length-append (each (λ q. told Types set below (held s ds) q) ps) (told Types set below (held s ds) p) in
        let b = ap length (one_more h many_is p l e Codes set below ds) ∙ length-append (each (λ q. told Codes set below (held s ds) q) ps) (told Codes set below (held s ds) p) in
        omega (arith, a, b)

    pub sizing_more : (r : Option ℕ) → ((ds : List Struct) (set : ℕ → ℕ) → Leaves rest (Long set below (held s ds) p) r) → (more : ℕ) → r ≡ Some more → Sizing s t below room n.shape more (i + 1)
    sizing_more r g more q = record { own = z.own; own_is = z.own_is; left = λ ds set. let k = rw q at (g ds set) in omega (arith, k, more_by ds set, z.left ds set) }

    pub sizing_out : (r : Option ℕ) → ((ds : List Struct) (set : ℕ → ℕ) → Leaves rest (Long set below (held s ds) p) r) → r ≡ None → (ds : List Struct) (set : ℕ → ℕ) → Leaves room (Long set left (held s ds) t) None
    sizing_out r g q ds set =
        let ps = parts (led (held s ds) (spanned (held s ds) t)).value in
        let k = rw q at (g ds set) in
        omega (arith, k, more_by ds set, z.left ds set, long_is h y z.own z.own_is ds set, each_in (λ q. told Types set below (held s ds) q) ps (i + 1), each_in (λ q. told Codes set below (held s ds) q) ps (i + 1))

  pub sizing_all : many ≤ i → (ds : List Struct) (set : ℕ → ℕ) → Leaves room (Long set left (held s ds) t) (Some rest)
  sizing_all l ds set = let a = ap (both set below (held s ds)) (all_parts h many_is l ds) in omega (arith, a, z.left ds set, long_is h y z.own z.own_is ds set)

-- ---- bytes

-- no bytes
pub wrote_none : {b : Bytes} {buf : List ℕ} {at : ℕ} → b ≡ [] → at + length b ≤ length buf → Wrote buf at b buf at
wrote_none {buf = buf} {at = at} e l = let i : at ≤ length buf = omega (arith, l) in rw e (record { next_is = omega arith; is = put_nothing buf at i })

pub wrote_zero : (half : Half) (set : ℕ → ℕ) (s : State) (t left : ℕ) (buf : List ℕ) (at : ℕ) → left ≡ 0 → ((ds : List Struct) → at + length (told half set left (held s ds) t) ≤ length buf) → (ds : List Struct) → Wrote buf at (told half set left (held s ds) t) buf at
wrote_zero half set s t left buf at z f ds = wrote_none (told_zero half set left (held s ds) t z) (f ds)

-- the parts before i were written after the type's own bytes
pub record Writing (half : Half) (set : ℕ → ℕ) (s : State) (t below : ℕ) (buf₀ : List ℕ) (next₀ : ℕ) (buf : List ℕ) (next i : ℕ) : Type 0 where
  pub is : (ds : List Struct) → Wrote buf₀ next₀ (each (λ q. told half set below (held s ds) q) (take i (parts (led (held s ds) (spanned (held s ds) t)).value))) buf next

abbrev ours : Half → (ℕ → ℕ) → ℕ → Node → Bytes
ours half set t n = own half (set t) (record { loc = n.loc; value = value_of n.shape })

abbrev theirs : Half → (ℕ → ℕ) → ℕ → d.State → List ℕ → Bytes
theirs half set below s ps = each (λ q. told half set below s q) ps

module _ {s : State} {t left below many : ℕ} {n : Node} (h : Leads s t n) (y : left ≡ suc below) (many_is : many ≡ part_count (shape_of n.shape)) (half : Half) (set : ℕ → ℕ)
    (buf : List ℕ) (at : ℕ) (fits : (ds : List Struct) → at + length (told half set left (held s ds) t) ≤ length buf) where
  long_by : (ds : List Struct) → length (told half set left (held s ds) t) ≡ length (ours half set t n) + length (theirs half set below (held s ds) (parts (led (held s ds) (spanned (held s ds) t)).value))
  long_by ds = ap length (level_is h ds half set left below y) ∙ length-append (ours half set t n) (theirs half set below (held s ds) (parts (led (held s ds) (spanned (held s ds) t)).value))

  pub own_room : at + length (ours half set t n) ≤ length buf
  own_room = omega (arith, fits [], long_by [])

  module _ {buf₀ : List ℕ} {next₀ : ℕ} (w : Wrote buf at (ours half set t n) buf₀ next₀) where
    long₀ : length buf₀ ≡ length buf
    long₀ = wrote_length buf at (ours half set t n) buf₀ next₀ own_room w

    parts_room : (ds : List Struct) (i : ℕ) → next₀ + length (theirs half set below (held s ds) (take i (parts (led (held s ds) (spanned (held s ds) t)).value))) ≤ length buf₀
    parts_room ds i = omega (arith, fits ds, long_by ds, w.next_is, long₀, each_in (λ q. told half set below (held s ds) q) (parts (led (held s ds) (spanned (held s ds) t)).value) i)

    pub writing_none : Writing half set s t below buf₀ next₀ buf₀ next₀ 0
    unfolding each
    writing_none = let i : next₀ ≤ length buf₀ = omega (arith, parts_room [] 0) in record { is = λ ds. record { next_is = omega arith; is = put_nothing buf₀ next₀ i } }

    module _ {buf₁ : List ℕ} {next₁ i : ℕ} (z : Writing half set s t below buf₀ next₀ buf₁ next₁ i) where
      module _ (p : ℕ) (l : i < many) (e : (ds : List Struct) → i < part_count (shape_of n.shape) → p ≡ get_or (parts (with_args (held s ds) (shape_of n.shape))) i 0) where
        longer : (ds : List Struct) → length (theirs half set below (held s ds) (take (i + 1) (parts (led (held s ds) (spanned (held s ds) t)).value))) ≡ length (theirs half set below (held s ds) (take i (parts (led (held s ds) (spanned (held s ds) t)).value))) + length (told half set below (held s ds) p)
        longer ds = ap length (one_more h many_is p l e half set below ds) ∙ length-append (theirs half set below (held s ds) (take i (parts (led (held s ds) (spanned (held s ds) t)).value))) (told half set below (held s ds) p)

        pub part_room : (ds : List Struct) → next₁ + length (told half set below (held s ds) p) ≤ length buf₁
        part_room ds = omega (arith, parts_room ds (i + 1), longer ds, (z.is ds).next_is, wrote_length buf₀ next₀ _ buf₁ next₁ (parts_room ds i) (z.is ds))

        pub writing_more : {buf₂ : List ℕ} {next₂ : ℕ} → ((ds : List Struct) → Wrote buf₁ next₁ (told half set below (held s ds) p) buf₂ next₂) → Writing half set s t below buf₀ next₀ buf₂ next₂ (i + 1)
        writing_more g = record { is = λ ds. rw (one_more h many_is p l e half set below ds) (wrote_wrote buf₀ next₀ _ buf₁ next₁ _ _ _ (parts_room ds i) (z.is ds) (g ds)) }

      pub writing_all : many ≤ i → (ds : List Struct) → Wrote buf at (told half set left (held s ds) t) buf₁ next₁
      writing_all l ds = rw (level_is h ds half set left below y) (wrote_wrote buf at (ours half set t n) buf₀ next₀ _ buf₁ next₁ own_room w (rw (all_parts h many_is l ds) at (z.is ds)))

-- ---- sets

-- the parts of a node whose set is known
pub fit_part : {s : State} {sets : List ℕ} {t many : ℕ} {n : Node} (f : Fit s sets) (k : HasSet sets t) (h : Leads s t n) (many_is : many ≡ part_count (shape_of n.shape)) {i : ℕ} (p : ℕ) (l : i < many)
    → ((ds : List Struct) → i < part_count (shape_of n.shape) → p ≡ get_or (parts (with_args (held s ds) (shape_of n.shape))) i 0) → HasSet sets p
fit_part {s} {sets} {t} f k h many_is {i} p l e =
    let goes : parts (led (held s []) (spanned (held s []) t)).value ≡ goes_on_to (held s []) t = led_goes (held s []) t in
    rw (part_here h many_is p l e [], goes) (f.below t k [] i (rw (← goes, here_many h [], ← many_is) l))

-- a name is led to as it unfolds
name_unfolds : (s : d.State) (t : ℕ) {n : d.TypeName} {tys : List ℕ} → (led s (spanned s t)).value ≡ d.Apply None n tys → (unfold_type s (spanned s t)).value ≡ d.Apply None n tys
unfolding led led_var unfold_type unfold_var
name_unfolds s t {n} {tys} = go (as_var (spanned s t).value) refl
  where
    bound : (v : ℕ) (o : Option ℕ) → (led_var s (spanned s t).loc v o).value ≡ d.Apply None n tys → (unfold_var s (spanned s t).loc o).value ≡ d.Apply None n tys
    bound v None e = never (cc)
    bound v (Some x) e = e

    go : (o : Option ℕ) → as_var (spanned s t).value ≡ o → (led s (spanned s t)).value ≡ d.Apply None n tys → (unfold_type s (spanned s t)).value ≡ d.Apply None n tys
    go None e q = rw (e, unfold_type) (rw (e, led) at q)
    go (Some v) e q = rw (e, unfold_type) (bound (forward_tvar s v) (get s (forward_tvar s v)) (rw (e, led) at q))

name_small : (s : d.State) (t : ℕ) {n : d.TypeName} {tys : List ℕ} → (led s (spanned s t)).value ≡ d.Apply None n tys → infer_abilities s t ≤ 15
unfolding infer_abilities infer infer_value all
name_small s t {n} {tys} e = go (count s)
  where
    go : (k : ℕ) → infer k s t ≤ 15
    go zero = omega arith
    go (suc k) = rw (name_unfolds s t e) (those_fit (granted (λ q. infer k s q) s n tys))

pub kept_fit : {s : State} {params : List (List ℕ)} {sets : List ℕ} → Kept s params sets → Declared s.words.now s.used params → Fit s sets
kept_fit {s} k d = record {
  structs = d.structs;
  size = k.size;
  small = λ t h n tys e. let small = name_small (held s d.structs) t e in omega (arith, small, k.is t h d.structs d.known);
  below = k.below;
}

-- with the sets that are known it is told as with those of the definition
pub told_known : {s : State} {params : List (List ℕ)} {sets : List ℕ} → Kept s params sets → (ds : List Struct) → Knows s params ds → (half : Half) (n t : ℕ) → HasSet sets t
    → told half (set_in sets) n (held s ds) t ≡ told half (infer_abilities (held s ds)) n (held s ds) t
unfolding told
told_known k ds a half zero t h = refl
told_known {s} {sets = sets} k ds a half (suc n) t h =
    let u = led (held s ds) (spanned (held s ds) t) in
    rw (k.is t h ds a) (ap (λ (b : Bytes). own half (infer_abilities (held s ds) t) u ++ b)
    (each_same (λ p. told half (set_in sets) n (held s ds) p) (λ p. told half (infer_abilities (held s ds)) n (held s ds) p) (parts u.value)
    (λ i l. told_known k ds a half n (get_or (parts u.value) i 0) (rw (led_goes (held s ds) t) (k.below t h ds i (rw (← led_goes (held s ds) t) l))))))

-- the set of a name without mark makes a byte
final_bytes : {A : Type 0} (set : ℕ) (x : d.Shape A) → ((n : d.TypeName) (p : A) → x ≡ d.Apply None n p → set < 240) → ByteFields x → ByteFields (finally set x)
unfolding finally mark
final_bytes set d.UnitType s b = tt
final_bytes set (d.Ref m t) s b = tt
final_bytes set (d.Param id a) s b = tt
final_bytes set (d.Apply None n p) s b = let k = s n p refl in (omega (arith, k), b.1)
final_bytes set (d.Apply (Some k) n p) s b = b
final_bytes set (d.Var v) s b = tt
final_bytes set d.Anything s b = tt
final_bytes set d.UnresolvedError s b = tt

pub fit_bytes : {s : State} {sets : List ℕ} {t : ℕ} {n : Node} → Fit s sets → HasSet sets t → Leads s t n → AllBytes (tables s) → (set : ℕ) → set ≡ set_in sets t → ByteFields (finally set (shape_of n.shape))
unfolding with_args
fit_bytes {s} {sets} {t} {n} f k h b set e = final_bytes set (shape_of n.shape) (λ c p z. rw e (f.small t k c _ (sym (ap (λ (x : Spanned TypeValue). x.value) (h.is f.structs)) ∙ ap (with_args (held s f.structs)) z))) (h.bytes b)

-- ---- XP

-- a type that runs into itself
pub over_itself : (s : State) (params : List (List ℕ)) (t : ℕ) (b : Bool) → ((ds : List Struct) → b ≡ reaches_itself (held s ds) t) → b ≡ true → (buf : List ℕ) → Expands s params t buf buf (Err RunsIntoItself)
over_itself s params t b e z buf ds k ar h = stopped (bytes_itself (held s ds) t (sym (e ds) ∙ z)) refl

-- .. that does not
pub over_ends : (s : State) (t : ℕ) (b : Bool) → ((ds : List Struct) → b ≡ reaches_itself (held s ds) t) → b ≡ false → Ends s s.used.nodes t
unfolding reaches_itself
over_ends s t b e z = record {
  few = omega arith;
  over = λ ds m l. more (held s ds) (count (held s ds)) m t (omega (arith, l, count_seen s.words.now s.used ds)) (not_false (ends_in (count (held s ds)) (held s ds) t) (sym (e ds) ∙ z));
}

module _ {s : State} (params : List (List ℕ)) {t : ℕ} (i : t < s.used.nodes) (n : Ends s s.used.nodes t) where
  abbrev halves : List Struct → Bytes
  halves ds = told Types (infer_abilities (held s ds)) s.used.nodes (held s ds) t ++ told Codes (infer_abilities (held s ds)) s.used.nodes (held s ds) t

  bytes_are : (ds : List Struct) {ar : d.TypeName → ℕ} → Sound ar (held s ds) → expanded_bytes (held s ds) t ≡ (if marked_in s.used.nodes (held s ds) t then refused already_expanded else ok (halves ds))
  bytes_are ds h = type_told h t s.used.nodes (count_seen s.words.now s.used ds) i (no_circle (held s ds) t (n.over ds (count (held s ds)) (omega (arith, count_seen s.words.now s.used ds))))

  module _ (b : Bool) (e : (ds : List Struct) → b ≡ marked_in s.used.nodes (held s ds) t) where
    pub over_marked : b ≡ true → (buf : List ℕ) → Expands s params t buf buf (Err AlreadyExpanded)
    over_marked z buf ds k ar h = stopped (bytes_are ds h ∙ rw (← e ds, z) refl) refl

    module _ (z : b ≡ false) where
      plain_bytes : (ds : List Struct) {ar : d.TypeName → ℕ} → Sound ar (held s ds) → expanded_bytes (held s ds) t ≡ ok (halves ds)
      plain_bytes ds h = bytes_are ds h ∙ rw (← e ds, z) refl

      halves_long : (ds : List Struct) → length (halves ds) ≡ Long (infer_abilities (held s ds)) s.used.nodes (held s ds) t
      halves_long ds = length-append (told Types (infer_abilities (held s ds)) s.used.nodes (held s ds) t) (told Codes (infer_abilities (held s ds)) s.used.nodes (held s ds) t)

      pub over_long : ((ds : List Struct) (f : ℕ → ℕ) → Leaves 4096 (Long f s.used.nodes (held s ds) t) None) → (buf : List ℕ) → Expands s params t buf buf (Err AnswerTooLong)
      over_long l buf ds k ar h = too_long (plain_bytes ds h) (omega (arith, l ds (infer_abilities (held s ds)), halves_long ds)) refl

      pub over_bytes : (rest : ℕ) → ((ds : List Struct) (f : ℕ → ℕ) → Leaves 4096 (Long f s.used.nodes (held s ds) t) (Some rest)) → {buf buf' : List ℕ} {len : ℕ}
          → ((ds : List Struct) → Knows s params ds → Wrote buf 0 (halves ds) buf' len) → Expands s params t buf buf' (Ok len)
      over_bytes rest l w ds k ar h = spelt (plain_bytes ds h) (omega (arith, l ds (infer_abilities (held s ds)), halves_long ds)) (w ds k)

-- both halves, one after the other
pub halves_wrote : {s : State} {params : List (List ℕ)} {sets : List ℕ} (t left : ℕ) → Kept s params sets → HasSet sets t → {buf : List ℕ} → 4096 ≤ length buf
    → ((ds : List Struct) (f : ℕ → ℕ) → Long f left (held s ds) t ≤ 4096)
    → {buf₁ : List ℕ} {next : ℕ} → ((ds : List Struct) → Wrote buf 0 (told Types (set_in sets) left (held s ds) t) buf₁ next)
    → {buf₂ : List ℕ} {end : ℕ} → ((ds : List Struct) → Wrote buf₁ next (told Codes (set_in sets) left (held s ds) t) buf₂ end)
    → (ds : List Struct) → Knows s params ds → Wrote buf 0 (told Types (infer_abilities (held s ds)) left (held s ds) t ++ told Codes (infer_abilities (held s ds)) left (held s ds) t) buf₂ end
halves_wrote {s} {sets = sets} t left k h {buf} room fits {buf₁} {next} a {buf₂} {end} b ds known =
    rw (← told_known k ds known Types left t h, ← told_known k ds known Codes left t h)
    (wrote_wrote buf 0 _ buf₁ next _ buf₂ end (omega (arith, room, fits ds (set_in sets))) (a ds) (b ds))
