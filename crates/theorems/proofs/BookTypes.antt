-- The Move Book's relation and core.rs's between trees of types: where they agree, and the least common supertype. Assumes nothing.
-- By derivations of the two relations: the Book's is part of the deep one, and from a type of the Book's no less. Then what serves two types, and the least that does (`Best`).
use mathlib.Core.Path.{◌≡◌, refl, ap, subst}
use mathlib.Core.Bool.{Bool, true, false}
use Rattle.std.specs.Prelude.{None, Some}
use Prim.Native.Nat.{ℕ, suc}
use Rattle.definition.specs.Types.{TypeName}
use Rattle.definition.specs.Join.{TypingCase, Join, Subtype, join_mut}
use Rattle.definition.specs.Book.{MoveType, unit, reference, parameter, tuple, named, MoveTypes, no_types, ◌and◌, BookSubtype, itself, mut_as_imm, tuples, BookSubtypes, no_more, each}
use Rattle.definition.specs.Book.{Base, base_parameter, base_named, Bases, base_none, base_each, Single, single_base, single_reference, Singles, single_none, single_each, BookType, book_unit, book_single, book_tuple}
use Rattle.definition.specs.Book.{Least}
use Rattle.theorems.proofs.BookDeep.{MutAs, as_itself, as_imm, DeepSubtype, units, references, parameters, in_tuples, in_arguments, DeepSubtypes, deep_no_more, deep_each}
use Rattle.theorems.proofs.DemandTracks.{never}

-- ---- the Book's rules hold at every depth

mutual
  pub deep_itself : (T : MoveType) → DeepSubtype T T
  deep_itself unit = units
  deep_itself (reference m T) = references as_itself (deep_itself T)
  deep_itself (parameter id) = parameters
  deep_itself (tuple Ts) = in_tuples (deep_themselves Ts)
  deep_itself (named n Ts) = in_arguments (deep_themselves Ts)

  pub deep_themselves : (Ts : MoveTypes) → DeepSubtypes Ts Ts
  deep_themselves no_types = deep_no_more
  deep_themselves (◌and◌ T Ts) = deep_each (deep_itself T) (deep_themselves Ts)

mutual
  pub book_deep : {L R : MoveType} → BookSubtype L R → DeepSubtype L R
  book_deep (itself {t = t}) = deep_itself t
  book_deep (mut_as_imm {t = t}) = references as_imm (deep_itself t)
  book_deep (tuples ts) = in_tuples (book_deeps ts)

  pub book_deeps : {Ls Rs : MoveTypes} → BookSubtypes Ls Rs → DeepSubtypes Ls Rs
  book_deeps no_more = deep_no_more
  book_deeps (each t ts) = deep_each (book_deep t) (book_deeps ts)

-- ---- from a type of the Book's the deep rules give no more than the Book's

mutual
  base_same : {L R : MoveType} → Base L → DeepSubtype L R → L ≡ R
  base_same base_parameter parameters = refl
  base_same (base_named {n = n} bs) (in_arguments ds) = ap (λ (ts : MoveTypes). named n ts) (bases_same bs ds)

  bases_same : {Ls Rs : MoveTypes} → Bases Ls → DeepSubtypes Ls Rs → Ls ≡ Rs
  bases_same base_none deep_no_more = refl
  bases_same (base_each {t = t} {ts = ts} b bs) (deep_each {u = u} {us = us} d ds) = rw (base_same b d, bases_same bs ds) refl

book_same : {L R : MoveType} → L ≡ R → BookSubtype L R
book_same {L} e = subst (λ (R : MoveType). BookSubtype L R) e itself

book_references : {m m' : Bool} {T T' : MoveType} → MutAs m m' → T ≡ T' → BookSubtype (reference m T) (reference m' T')
book_references {m = m} as_itself e = book_same (ap (λ (T : MoveType). reference m T) e)
book_references {T = T} as_imm e = subst (λ (T' : MoveType). BookSubtype (reference true T) (reference false T')) e mut_as_imm

single_book : {L R : MoveType} → Single L → DeepSubtype L R → BookSubtype L R
single_book (single_base b) d = book_same (base_same b d)
single_book (single_reference b) (references m d) = book_references m (base_same b d)

singles_book : {Ls Rs : MoveTypes} → Singles Ls → DeepSubtypes Ls Rs → BookSubtypes Ls Rs
singles_book single_none deep_no_more = no_more
singles_book (single_each s ss) (deep_each d ds) = each (single_book s d) (singles_book ss ds)

pub deep_book : {L R : MoveType} → BookType L → DeepSubtype L R → BookSubtype L R
deep_book book_unit units = itself
deep_book (book_single s) d = single_book s d
deep_book (book_tuple s t ss) (in_tuples (deep_each d (deep_each e ds))) = tuples (each (single_book s d) (each (single_book t e) (singles_book ss ds)))

-- .. and lead to a type of the Book's
single_up : {L R : MoveType} → Single L → DeepSubtype L R → Single R
single_up (single_base b) d = single_base (subst Base (base_same b d) b)
single_up (single_reference b) (references m d) = single_reference (subst Base (base_same b d) b)

singles_up : {Ls Rs : MoveTypes} → Singles Ls → DeepSubtypes Ls Rs → Singles Rs
singles_up single_none deep_no_more = single_none
singles_up (single_each s ss) (deep_each d ds) = single_each (single_up s d) (singles_up ss ds)

pub book_up : {L R : MoveType} → BookType L → DeepSubtype L R → BookType R
book_up book_unit units = book_unit
book_up (book_single s) d = book_single (single_up s d)
book_up (book_tuple s t ss) (in_tuples (deep_each d (deep_each e ds))) = book_tuple (single_up s d) (single_up t e) (singles_up ss ds)

-- ---- T serves L and R: both are its subtypes, and where a subtype is asked for it is R

pub data ServesMut : TypingCase → Bool → Bool → Bool → Type 0 where
  mut_join : {m1 m2 m : Bool} → MutAs m1 m → MutAs m2 m → ServesMut Join m1 m2 m
  mut_subtype : {m1 m2 : Bool} → MutAs m1 m2 → ServesMut Subtype m1 m2 m2

mutual
  pub data Serves (c : TypingCase) : MoveType → MoveType → MoveType → Type 0 where
    s_unit : Serves c unit unit unit
    s_reference : {m1 m2 m : Bool} {L R T : MoveType} → ServesMut c m1 m2 m → Serves c L R T → Serves c (reference m1 L) (reference m2 R) (reference m T)
    s_parameter : {id : ℕ} → Serves c (parameter id) (parameter id) (parameter id)
    s_tuple : {Ls Rs Ts : MoveTypes} → Serve c Ls Rs Ts → Serves c (tuple Ls) (tuple Rs) (tuple Ts)
    s_named : {n : TypeName} {Ls Rs Ts : MoveTypes} → Serve c Ls Rs Ts → Serves c (named n Ls) (named n Rs) (named n Ts)

  pub data Serve (c : TypingCase) : MoveTypes → MoveTypes → MoveTypes → Type 0 where
    s_none : Serve c no_types no_types no_types
    s_each : {L R T : MoveType} {Ls Rs Ts : MoveTypes} → Serves c L R T → Serve c Ls Rs Ts → Serve c (◌and◌ L Ls) (◌and◌ R Rs) (◌and◌ T Ts)

-- the least that serves
pub record Best (c : TypingCase) (L R T : MoveType) : Type 0 where
  pub serves : Serves c L R T
  pub best : (U : MoveType) → Serves c L R U → DeepSubtype T U

pub record Bests (c : TypingCase) (Ls Rs Ts : MoveTypes) : Type 0 where
  pub serve : Serve c Ls Rs Ts
  pub bests : (Us : MoveTypes) → Serve c Ls Rs Us → DeepSubtypes Ts Us

mutual
  pub from_subtype : {L R : MoveType} → DeepSubtype L R → Serves Subtype L R R
  from_subtype units = s_unit
  from_subtype (references m d) = s_reference (mut_subtype m) (from_subtype d)
  from_subtype parameters = s_parameter
  from_subtype (in_tuples ds) = s_tuple (from_subtypes ds)
  from_subtype (in_arguments ds) = s_named (from_subtypes ds)

  from_subtypes : {Ls Rs : MoveTypes} → DeepSubtypes Ls Rs → Serve Subtype Ls Rs Rs
  from_subtypes deep_no_more = s_none
  from_subtypes (deep_each d ds) = s_each (from_subtype d) (from_subtypes ds)

mut_is : {c : TypingCase} {m1 m2 m : Bool} → ServesMut c m1 m2 m → c ≡ Subtype → (MutAs m1 m2) × (m ≡ m2)
mut_is (mut_subtype a) e = (a, refl)
mut_is (mut_join a b) e = never (cc)

mutual
  pub serves_subtype : {c : TypingCase} {L R T : MoveType} → Serves c L R T → c ≡ Subtype → DeepSubtype L R × (T ≡ R)
  serves_subtype s_unit e = (units, refl)
  serves_subtype (s_reference m s) e = let p = serves_subtype s e in let q = mut_is m e in (references q.0 p.0, rw (p.1, q.1) refl)
  serves_subtype s_parameter e = (parameters, refl)
  serves_subtype (s_tuple ss) e = let p = serve_subtypes ss e in (in_tuples p.0, rw p.1 refl)
  serves_subtype (s_named ss) e = let p = serve_subtypes ss e in (in_arguments p.0, rw p.1 refl)

  serve_subtypes : {c : TypingCase} {Ls Rs Ts : MoveTypes} → Serve c Ls Rs Ts → c ≡ Subtype → DeepSubtypes Ls Rs × (Ts ≡ Rs)
  serve_subtypes s_none e = (deep_no_more, refl)
  serve_subtypes (s_each s ss) e = let p = serves_subtype s e in let q = serve_subtypes ss e in (deep_each p.0 q.0, rw (p.1, q.1) refl)

mutual
  pub from_join : {L U : MoveType} → DeepSubtype L U → {R : MoveType} → DeepSubtype R U → Serves Join L R U
  from_join units units = s_unit
  from_join (references m d) (references m' d') = s_reference (mut_join m m') (from_join d d')
  from_join parameters parameters = s_parameter
  from_join (in_tuples ds) (in_tuples ds') = s_tuple (from_joins ds ds')
  from_join (in_arguments ds) (in_arguments ds') = s_named (from_joins ds ds')

  from_joins : {Ls Us : MoveTypes} → DeepSubtypes Ls Us → {Rs : MoveTypes} → DeepSubtypes Rs Us → Serve Join Ls Rs Us
  from_joins deep_no_more deep_no_more = s_none
  from_joins (deep_each d ds) (deep_each d' ds') = s_each (from_join d d') (from_joins ds ds')

mut_above : {c : TypingCase} {m1 m2 m : Bool} → ServesMut c m1 m2 m → MutAs m1 m × MutAs m2 m
mut_above (mut_subtype a) = (a, as_itself)
mut_above (mut_join a b) = (a, b)

mutual
  pub serves_above : {c : TypingCase} {L R T : MoveType} → Serves c L R T → DeepSubtype L T × DeepSubtype R T
  serves_above s_unit = (units, units)
  serves_above (s_reference m s) = let p = serves_above s in let q = mut_above m in (references q.0 p.0, references q.1 p.1)
  serves_above s_parameter = (parameters, parameters)
  serves_above (s_tuple ss) = let p = serve_above ss in (in_tuples p.0, in_tuples p.1)
  serves_above (s_named ss) = let p = serve_above ss in (in_arguments p.0, in_arguments p.1)

  serve_above : {c : TypingCase} {Ls Rs Ts : MoveTypes} → Serve c Ls Rs Ts → DeepSubtypes Ls Ts × DeepSubtypes Rs Ts
  serve_above s_none = (deep_no_more, deep_no_more)
  serve_above (s_each s ss) = let p = serves_above s in let q = serve_above ss in (deep_each p.0 q.0, deep_each p.1 q.1)

pub best_least : {L R T : MoveType} → Best Join L R T → Least DeepSubtype L R T
best_least b = let p = serves_above b.serves in record { above_left = p.0; above_right = p.1; least = λ U l r. b.best U (from_join l r) }

-- for the Book's types the deep rules' least is the Book's
pub least_book : {L R T : MoveType} → BookType L → BookType R → Least DeepSubtype L R T → Least BookSubtype L R T
least_book bl br h = record {
  above_left = deep_book bl h.above_left;
  above_right = deep_book br h.above_right;
  least = λ U l r. deep_book (book_up bl h.above_left) (h.least U (book_deep l) (book_deep r));
}

-- ---- the best, level by level

mut_imm : (m : Bool) → MutAs m false
mut_imm true = as_imm
mut_imm false = as_itself

mut_imm_up : {m m' : Bool} → MutAs m m' → m ≡ false → m' ≡ false
mut_imm_up as_itself e = e
mut_imm_up as_imm e = refl

mut_up : {m m' : Bool} → m ≡ true → MutAs m m'
mut_up {m' = true} e = rw e as_itself
mut_up {m' = false} e = rw e as_imm

-- what join_impl takes for the mutability serves, and is the least that does
pub mut_best : (c : TypingCase) (m1 m2 m : Bool) → join_mut c m1 m2 ≡ Some m → ServesMut c m1 m2 m × ((m' : Bool) → ServesMut c m1 m2 m' → MutAs m m')
unfolding join_mut
mut_best Join true m2 m e = let d : m2 ≡ m = cc in rw d (mut_join (mut_up refl) as_itself, λ m' s. (mut_above s).1)
mut_best Join false m2 m e =
    let d : m ≡ false = cc in
    rw d (mut_join as_itself (mut_imm m2), λ m' s. rw (mut_imm_up (mut_above s).0 refl) as_itself)
mut_best Subtype true m2 m e = (go m2 m e, λ m' s. go' m2 m m' e s)
  where
    go : (m2 m : Bool) → join_mut Subtype true m2 ≡ Some m → ServesMut Subtype true m2 m
    go true m e = let d : m ≡ true = cc in rw d (mut_subtype as_itself)
    go false m e = let d : m ≡ false = cc in rw d (mut_subtype as_imm)

    go' : (m2 m m' : Bool) → join_mut Subtype true m2 ≡ Some m → ServesMut Subtype true m2 m' → MutAs m m'
    go' true m m' e s = let d : m ≡ true = cc in mut_up d
    go' false m m' e s = let d : m ≡ false = cc in let q = mut_is s refl in rw (d, q.1) as_itself
mut_best Subtype false false m e = let d : m ≡ false = cc in rw d (mut_subtype as_itself, λ m' s. rw (mut_is s refl).1 as_itself)
mut_best Subtype false true m e = never (cc)

pub mut_none : (c : TypingCase) (m1 m2 m : Bool) → join_mut c m1 m2 ≡ None → ServesMut c m1 m2 m → ⊥
unfolding join_mut
mut_none Join m1 m2 m e s = never (cc)
mut_none Subtype true true m e s = never (cc)
mut_none Subtype m1 false m e s = never (cc)
mut_none Subtype false true m e s = never (let d : true ≡ false = mut_imm_up (mut_is s refl).0 refl in cc)

module _ {c : TypingCase} where
  pub best_unit : Best c unit unit unit
  best_unit = record { serves = s_unit; best = λ U s. go s }
    where
      go : {U : MoveType} → Serves c unit unit U → DeepSubtype unit U
      go s_unit = units

  pub best_parameter : {id : ℕ} → Best c (parameter id) (parameter id) (parameter id)
  best_parameter {id} = record { serves = s_parameter; best = λ U s. go s }
    where
      go : {i j : ℕ} {U : MoveType} → Serves c (parameter i) (parameter j) U → DeepSubtype (parameter i) U
      go s_parameter = parameters

  pub best_reference : {m1 m2 m : Bool} {L R T : MoveType} → ServesMut c m1 m2 m → ((m' : Bool) → ServesMut c m1 m2 m' → MutAs m m') → Best c L R T → Best c (reference m1 L) (reference m2 R) (reference m T)
  best_reference {m1} {m2} {m} {L} {R} {T} s h b = record { serves = s_reference s b.serves; best = λ U s. go s }
    where
      go : {U : MoveType} → Serves c (reference m1 L) (reference m2 R) U → DeepSubtype (reference m T) U
      go (s_reference {m = m'} {T = U} q r) = references (h m' q) (b.best U r)

  pub best_tuple : {Ls Rs Ts : MoveTypes} → Bests c Ls Rs Ts → Best c (tuple Ls) (tuple Rs) (tuple Ts)
  best_tuple {Ls} {Rs} {Ts} b = record { serves = s_tuple b.serve; best = λ U s. go s }
    where
      go : {U : MoveType} → Serves c (tuple Ls) (tuple Rs) U → DeepSubtype (tuple Ts) U
      go (s_tuple {Ts = Us} r) = in_tuples (b.bests Us r)

  pub best_named : {n : TypeName} {Ls Rs Ts : MoveTypes} → Bests c Ls Rs Ts → Best c (named n Ls) (named n Rs) (named n Ts)
  best_named {n} {Ls} {Rs} {Ts} b = record { serves = s_named b.serve; best = λ U s. go s }
    where
      go : {m : TypeName} {U : MoveType} → Serves c (named n Ls) (named m Rs) U → DeepSubtype (named n Ts) U
      go (s_named {Ts = Us} r) = in_arguments (b.bests Us r)

  pub bests_none : Bests c no_types no_types no_types
  bests_none = record { serve = s_none; bests = λ Us s. go s }
    where
      go : {Us : MoveTypes} → Serve c no_types no_types Us → DeepSubtypes no_types Us
      go s_none = deep_no_more

  pub bests_each : {L R T : MoveType} {Ls Rs Ts : MoveTypes} → Best c L R T → Bests c Ls Rs Ts → Bests c (◌and◌ L Ls) (◌and◌ R Rs) (◌and◌ T Ts)
  bests_each {L} {R} {T} {Ls} {Rs} {Ts} b bs = record { serve = s_each b.serves bs.serve; bests = λ Us s. go s }
    where
      go : {Us : MoveTypes} → Serve c (◌and◌ L Ls) (◌and◌ R Rs) Us → DeepSubtypes (◌and◌ T Ts) Us
      go (s_each {T = U} {Ts = Us} r rs) = deep_each (b.best U r) (bs.bests Us rs)

-- ---- what nothing serves

abbrev pub Apart : TypingCase → MoveType → MoveType → Type 0
Apart c L R = (U : MoveType) → Serves c L R U → ⊥

abbrev pub Aparts : TypingCase → MoveTypes → MoveTypes → Type 0
Aparts c Ls Rs = (Us : MoveTypes) → Serve c Ls Rs Us → ⊥

abbrev pub head_of : MoveType → ℕ
head_of unit = 0
head_of (reference m T) = 1
head_of (parameter id) = 2
head_of (tuple Ts) = 3
head_of (named n Ts) = 4

abbrev pub many : MoveTypes → ℕ
many no_types = 0
many (◌and◌ T Ts) = suc (many Ts)

module _ {c : TypingCase} where
  same_head : {L R U : MoveType} → Serves c L R U → head_of L ≡ head_of R
  same_head s_unit = refl
  same_head (s_reference m s) = refl
  same_head s_parameter = refl
  same_head (s_tuple ss) = refl
  same_head (s_named ss) = refl

  pub apart_heads : {L R : MoveType} → (head_of L ≡ head_of R → ⊥) → Apart c L R
  apart_heads h U s = h (same_head s)

  pub apart_mut : {m1 m2 : Bool} {L R : MoveType} → ((m : Bool) → ServesMut c m1 m2 m → ⊥) → Apart c (reference m1 L) (reference m2 R)
  apart_mut h U (s_reference {m = m} q r) = h m q

  pub apart_inner : {m1 m2 : Bool} {L R : MoveType} → Apart c L R → Apart c (reference m1 L) (reference m2 R)
  apart_inner h U (s_reference {T = T} q r) = h T r

  pub apart_ids : {i j : ℕ} → (i ≡ j → ⊥) → Apart c (parameter i) (parameter j)
  apart_ids h U s_parameter = h refl

  pub apart_names : {n m : TypeName} {Ls Rs : MoveTypes} → (n ≡ m → ⊥) → Apart c (named n Ls) (named m Rs)
  apart_names h U (s_named ss) = h refl

  pub apart_arguments : {n m : TypeName} {Ls Rs : MoveTypes} → Aparts c Ls Rs → Apart c (named n Ls) (named m Rs)
  apart_arguments h U (s_named {Ts = Ts} ss) = h Ts ss

  pub apart_elements : {Ls Rs : MoveTypes} → Aparts c Ls Rs → Apart c (tuple Ls) (tuple Rs)
  apart_elements h U (s_tuple {Ts = Ts} ss) = h Ts ss

  pub aparts_first : {L R : MoveType} {Ls Rs : MoveTypes} → Apart c L R → Aparts c (◌and◌ L Ls) (◌and◌ R Rs)
  aparts_first h Us (s_each {T = T} s ss) = h T s

  pub aparts_rest : {L R : MoveType} {Ls Rs : MoveTypes} → Aparts c Ls Rs → Aparts c (◌and◌ L Ls) (◌and◌ R Rs)
  aparts_rest h Us (s_each {Ts = Ts} s ss) = h Ts ss

  same_many : {Ls Rs Us : MoveTypes} → Serve c Ls Rs Us → many Ls ≡ many Rs
  same_many s_none = refl
  same_many (s_each s ss) = ap suc (same_many ss)

  pub aparts_many : {Ls Rs : MoveTypes} → (many Ls ≡ many Rs → ⊥) → Aparts c Ls Rs
  aparts_many h Us ss = h (same_many ss)

  pub served_many : {Ls Rs Us : MoveTypes} → Serve c Ls Rs Us → many Us ≡ many Rs
  served_many s_none = refl
  served_many (s_each s ss) = ap suc (served_many ss)
