-- subtype, join and SV follow the Move Book. Assumes nothing.
use mathlib.Core.Path.{◌≡◌, refl, subst}
use mathlib.Core.Bool.{true}
use Prim.Native.Nat.{ℕ}
use Rattle.definition.specs.Types.{State, max_depth, Refusal, abilities_disagree, refused}
use Rattle.definition.specs.Join.{Join, Subtype, join_impl, join, subtype}
use Rattle.definition.specs.Trees.{arity}
use Rattle.definition.specs.Sound.{sound}
use Rattle.definition.specs.Book.{MoveType, BookSubtype, BookType, Denotes, SubtypeRule, JoinRule, TheBook}
use Rattle.theorems.proofs.BookDeep.{DeepSubtype, JoinRoom, DeepBook}
use Rattle.theorems.proofs.SoundFacts.{facts}
use Rattle.theorems.proofs.BookTypes.{book_deep, deep_book as deep_is_book, from_subtype, serves_subtype, from_join, best_least, least_book}
use Rattle.theorems.proofs.BookJoin.{Judges, judged, map_to}
use Rattle.theorems.proofs.BookRoom.{roomy}
use Rattle.theorems.proofs.BookAbilities.{abilities_are}
use Rattle.theorems.proofs.BookLiteral.{literal, decided_literal, literal_room}

module _ (S : State) (h : sound S ≡ true) (l r : ℕ) (L R : MoveType) (dl : Denotes S l L) (dr : Denotes S r R) where
  all_depths : Judges (arity S) (λ s c l r. join_impl max_depth s c l r)
  unfolding arity
  all_depths = judged (λ n. refl) max_depth

  subtype_deep : SubtypeRule DeepSubtype S l r L R
  unfolding SubtypeRule subtype
  subtype_deep = map_to (λ S' t g. let p = serves_subtype g.the_best.serves refl in (p.0, subst (λ (T : MoveType). Denotes S' t T) p.1 g.is)) (λ apart d. apart R (from_subtype d))
      (all_depths Subtype S l r L R (facts S h) dl dr)

  join_deep : JoinRule DeepSubtype S l r L R
  unfolding JoinRule join
  join_deep = map_to (λ S' t g. (g.type, best_least g.the_best, g.is)) (λ apart U a b. apart U (from_join a b)) (all_depths Join S l r L R (facts S h) dl dr)

  subtype_room : JoinRoom S max_depth L → (x : Refusal) → subtype S l r ≡ refused x → x ≡ abilities_disagree
  unfolding subtype arity
  subtype_room o x e = roomy {ar = arity S} (λ n. refl) max_depth Subtype S l r L R (facts S h) dl dr o x e

  join_room : JoinRoom S max_depth L → (x : Refusal) → join S l r ≡ refused x → x ≡ abilities_disagree
  unfolding join arity
  join_room o x e = roomy {ar = arity S} (λ n. refl) max_depth Join S l r L R (facts S h) dl dr o x e

  subtype_book : BookType L → SubtypeRule BookSubtype S l r L R
  unfolding SubtypeRule
  subtype_book b = map_to (λ S' t p. (deep_is_book b p.0, p.1)) (λ n d. n (book_deep d)) subtype_deep

  join_book : BookType L → BookType R → JoinRule BookSubtype S l r L R
  unfolding JoinRule
  join_book bl br = map_to (λ S' t p. (p.0, least_book bl br p.1, p.2)) (λ n U a b. n U (book_deep a) (book_deep b)) join_deep

pub the_book : (S : State) → sound S ≡ true → TheBook S
the_book S h = record {
  subtype_book = λ l r L R dl dr b. subtype_book S h l r L R dl dr b;
  join_book = λ l r L R dl dr bl br. join_book S h l r L R dl dr bl br;
  literal = λ v loc e free. literal S h v loc e free;
  decided_literal = λ v loc t e i. decided_literal S h v loc t e i;
  abilities_are = λ t i r a. abilities_are S h t i r a;
}

pub deep_book : (S : State) → sound S ≡ true → DeepBook S
deep_book S h = record {
  subtype_deep = λ l r L R dl dr. subtype_deep S h l r L R dl dr;
  join_deep = λ l r L R dl dr. join_deep S h l r L R dl dr;
  book_deep = λ L R b. book_deep b;
  subtype_room = λ l r L R dl dr o x e. subtype_room S h l r L R dl dr o x e;
  join_room = λ l r L R dl dr o x e. join_room S h l r L R dl dr o x e;
  literal_room = λ a b e. literal_room S h a b e;
}
