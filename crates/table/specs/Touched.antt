-- Which variables a note tells apart. Assumes nothing: these are definitions.
use Rattle.std.specs.Prelude.{◌≡◌, List, ℕ, ◌<◌}
use Rattle.table.specs.Rows.{row, var_table}
use Rattle.table.specs.declared.Touched.{Touched}
use Rattle.table.specs.declared.Touched.TheVariants.{Nothing, One, Two, Three, Any}

-- variable v is not among the noted
abbrev pub Untouched : Touched → ℕ → Type 0
Untouched Nothing v = Unit {0}
Untouched (One a) v = v ≡ a → ⊥
Untouched (Two a b) v = (v ≡ a → ⊥) × (v ≡ b → ⊥)
Untouched (Three a b c) v = (v ≡ a → ⊥) × ((v ≡ b → ⊥) × (v ≡ c → ⊥))
Untouched Any v = ⊥

-- variable v is noted, if it is among the first `saved`, and what was noted stays noted
abbrev pub Touches : ℕ → ℕ → Touched → Touched → Type 0
Touches saved v t t' = (x : ℕ) → x < saved → Untouched t' x → Untouched t x × (x ≡ v → ⊥)

-- of the first n variables, the rows of all others are as they were
abbrev pub Stay : Touched → ℕ → List ℕ → List ℕ → Type 0
Stay t n w w' = (v : ℕ) → v < 1024 → v < n → Untouched t v → row var_table w' v ≡ row var_table w v
