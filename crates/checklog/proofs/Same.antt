-- Two answers beside one another: number, payload, words and parameter bytes are the same just where the answers are. Assumes nothing.
use mathlib.Core.Path.{◌≡◌, refl, sym, ap, ap₂, ◌∙◌}
use mathlib.Core.List.{List, ◌++◌}
use mathlib.Core.Bool.{Bool, true, false, ◌&&◌}
use Prim.Native.Nat.{ℕ}
use lib.ListN.{length, take, drop}
use lib.Seq.{take_at}
use Rattle.std.specs.Prelude.{Decides}
use Rattle.theorems.proofs.SoundFacts.{and_l, and_r}
use Rattle.theorems.proofs.Soundness.{and}
use Rattle.engine.specs.declared.Answered.{Answered}
use Rattle.engine.specs.Public.{LentAnswer, in_front, GivesAnswer}

front_of : (p buf : List ℕ) → take (length p) (in_front p buf) ≡ p
unfolding in_front
front_of p buf = take_at p _ _ refl

fields : {n n' : ℕ} {p p' w w' : List ℕ} {r r' : List (List ℕ)} → n ≡ n' → p ≡ p' → w ≡ w' → r ≡ r'
    → ◌≡◌ {A = LentAnswer} (record { number = n; payload = p; words = w; params = r }) (record { number = n'; payload = p'; words = w'; params = r' })
fields en ep ew er = rw (en, ep, ew, er) refl

told : {n n' l l' : ℕ} → n ≡ n' → l ≡ l' → ◌≡◌ {A = Answered} (record { number = n; length = l }) (record { number = n'; length = l' })
told en el = rw (en, el) refl

module _ (a b : LentAnswer) (x y : Answered) (buf w v bx by : List ℕ) (r s : List (List ℕ)) (g : GivesAnswer a buf x w r bx) (h : GivesAnswer b buf y v s by) where
  payloads : x ≡ y → bx ≡ by → a.payload ≡ b.payload
  payloads e f =
      let long = sym g.size ∙ ap (λ (q : Answered). q.length) e ∙ h.size in
      sym (front_of a.payload buf) ∙ ap₂ (λ (n : ℕ) (l : List ℕ). take n l) long (sym g.front ∙ f ∙ h.front) ∙ front_of b.payload buf

  answers : x ≡ y → bx ≡ by → w ≡ v → r ≡ s → a ≡ b
  answers e f ew er = fields (sym g.told ∙ ap (λ (q : Answered). q.number) e ∙ h.told) (payloads e f) (sym g.words ∙ ew ∙ h.words) (sym g.params ∙ er ∙ h.params)

  numbers : a ≡ b → x ≡ y
  numbers e = told (g.told ∙ ap (λ (q : LentAnswer). q.number) e ∙ sym h.told) (g.size ∙ ap (λ (q : LentAnswer). length q.payload) e ∙ sym h.size)

  -- the four tests, together
  pub same : {p q t u : Bool} → Decides p (x ≡ y) → Decides q (bx ≡ by) → Decides t (w ≡ v) → Decides u (r ≡ s) → (o : Bool) → o ≡ (p && (q && (t && u))) → Decides o (a ≡ b)
  same {p} {q} {t} {u} dp dq dt du o e = (
    λ i.
        let j = sym e ∙ i in
        let k = and_r p _ j in
        let m = and_r q _ k in
        answers (dp.0 (and_l p _ j)) (dq.0 (and_l q _ k)) (dt.0 (and_l t u m)) (du.0 (and_r t u m)),
    λ i.
        let f = g.front ∙ ap (λ (z : LentAnswer). in_front z.payload buf) i ∙ sym h.front in
        let ew = g.words ∙ ap (λ (z : LentAnswer). z.words) i ∙ sym h.words in
        let er = g.params ∙ ap (λ (z : LentAnswer). z.params) i ∙ sym h.params in
        e ∙ and (dp.1 (numbers i)) (and (dq.1 f) (and (dt.1 ew) (du.1 er))),
  )
