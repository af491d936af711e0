-- R-11: in a list of records none of which begins with KP's letters every variable stays what it is, so demand 3 says of it what it said before. Assumes nothing.
use mathlib.Core.Path.{◌≡◌, refl, sym, ap, ◌∙◌}
use mathlib.Core.Logic.{◌≢◌}
use mathlib.Core.Bool.{Bool, true, false}
use mathlib.Core.List.{List, [], ◌∷◌, Memᴰ}
use Rattle.std.specs.Prelude.{Option, Some}
use Prim.Native.Nat.{ℕ, zero, suc, ◌-◌, ◌≤◌}
use lib.ListN.{length, take, drop}
use Rattle.definition.specs.Types.{State, Result, ok, err, refused}
use Rattle.definition.specs.Join.{TypingCase}
use Rattle.definition.specs.Write.{Bytes}
use Rattle.definition.specs.Reader.{Read, got, not_read}
use Rattle.definition.specs.Record.{Record, read_record}
use Rattle.definition.specs.Build.{build_many}
use Rattle.definition.specs.Sound.{sound}
use Rattle.definition.specs.Step.{Apart, usable, step}
use Rattle.definition.specs.Demand.{Event, stays, pair_events, nothing_done, many_events, one_event, events_by, lent_events, events, trace, at, followed, from_to, NoneSinks, NoneSinksBy, NeedsGrow, NoLoops}
use Rattle.theorems.proofs.DemandOrder.{All}
use Rattle.theorems.proofs.SoundRanges.{all_append}
use Rattle.theorems.proofs.ReadLetters.{letters, Lettered, read_letters, letters_are}
use Rattle.theorems.proofs.DemandEveryDepth.{ByApart, as_other, as_many, as_links_of_one, as_links_of_two, as_keeps, by_apart, RisesBy, Rises, demand_3_at_every_depth}
use Rattle.theorems.proofs.Demand.{demand_3, needs_grow}

abbrev pub WithoutKP : List (Bytes × ℕ) → Type 0
WithoutKP records = (r : Bytes × ℕ) → Memᴰ r records → take 2 r.0 ≢ 75 ∷ 80 ∷ []

abbrev AllStay : List Event → Type 0
AllStay es = All (λ (e : Event). e.moves ≡ stays) es

pairs_stay : (ps : List (TypingCase × ℕ × ℕ)) (s : State) → AllStay (pair_events s ps)
unfolding pair_events
pairs_stay [] s = tt
pairs_stay (p ∷ ps) s = (refl, pairs_stay ps _)

many_stay : (s : State) (m : Result (State × List (TypingCase × ℕ × ℕ))) → AllStay (many_events s m)
unfolding many_events nothing_done
many_stay s (ok (s', ps)) = pairs_stay ps s'
many_stay s (err s' e) = (refl, tt)
many_stay s (refused x) = (refl, tt)

record_stays : (s : State) {r : Record} {a : Apart} → ByApart r a → letters r ≢ 75 ∷ 80 ∷ [] → AllStay (events_by s r a)
unfolding events_by one_event letters
record_stays s (as_other e) d = (refl, tt)
record_stays s as_links_of_one d = (refl, tt)
record_stays s as_links_of_two d = (refl, tt)
record_stays s (as_many {ps = ps}) d = many_stay s (build_many ps s)
record_stays s as_keeps d = absurd (d refl)

lent_stay : (s : State) (bytes : Bytes) (r : Read Record) → Lettered (take 2 bytes) r → take 2 bytes ≢ 75 ∷ 80 ∷ [] → AllStay (lent_events s r)
unfolding lent_events nothing_done
lent_stay s bytes (got r []) l d = record_stays s (by_apart r) (λ e. d (sym (letters_are l) ∙ e))
lent_stay s bytes (got r (b ∷ rest)) l d = (refl, tt)
lent_stay s bytes (not_read x) l d = (refl, tt)

events_stay : (s : State) (bytes : Bytes) (buffer : ℕ) → take 2 bytes ≢ 75 ∷ 80 ∷ [] → AllStay (events s bytes buffer)
unfolding events nothing_done
events_stay s bytes buffer d = go (usable s bytes buffer)
  where
    go : (b : Bool) → AllStay (elim b as (λ x. List Event) [ true ↦ lent_events s (read_record s bytes) | false ↦ nothing_done s ])
    go true = lent_stay s bytes (read_record s bytes) (read_letters s bytes) d
    go false = (refl, tt)

trace_stays : (s : State) (records : List (Bytes × ℕ)) → WithoutKP records → AllStay (trace s records)
unfolding trace
trace_stays s [] w = tt
trace_stays s ((bytes, buffer) ∷ records) w =
    all_append (λ (e : Event). e.moves ≡ stays) (events s bytes buffer) _ (events_stay s bytes buffer (w (bytes, buffer) (Memᴰ.head refl))) (trace_stays (step s bytes buffer).state records (λ r m. w r (Memᴰ.tail m)))

take_stays : (n : ℕ) (es : List Event) → AllStay es → AllStay (take n es)
take_stays zero es h = tt
take_stays (suc n) [] h = tt
take_stays (suc n) (e ∷ es) h = (h.0, take_stays n es h.1)

drop_stays : (n : ℕ) (es : List Event) → AllStay es → AllStay (drop n es)
drop_stays zero es h = h
drop_stays (suc n) [] h = tt
drop_stays (suc n) (e ∷ es) h = drop_stays n es h.1

followed_stays : (es : List Event) → AllStay es → (v : ℕ) → followed es v ≡ Some v
unfolding followed stays
followed_stays [] h v = refl
followed_stays (e ∷ es) h v = rw (ap (λ (go : ℕ → Option ℕ). go v) h.0) (followed_stays es h.1 v)

pub all_stay : (s : State) (records : List (Bytes × ℕ)) → WithoutKP records → (i j v : ℕ) → from_to s records i j v ≡ Some v
unfolding from_to
all_stay s records w i j v = followed_stays _ (take_stays (j - i) _ (drop_stays i _ (trace_stays s records w))) v

-- demand 3 as it was
pub none_sinks_without_KP : (s : State) (records : List (Bytes × ℕ)) → sound s ≡ true → NoLoops s records → WithoutKP records → (i j : ℕ) → i ≤ j → j ≤ length (trace s records) → NoneSinks (at s records i) (at s records j)
unfolding NoneSinks NoneSinksBy stays
none_sinks_without_KP s records h n w i j k l v v' a e = (demand_3 s records h n).points i j k l v v' a (all_stay s records w i j v ∙ e)

pub needs_grow_without_KP : (s : State) (records : List (Bytes × ℕ)) → WithoutKP records → (i j : ℕ) → i ≤ j → NeedsGrow (at s records i) (at s records j)
unfolding stays
needs_grow_without_KP s records w i j k = let g = needs_grow s records i j k in record {
  mark_stays = λ v v' a e. g.mark_stays v v' a (all_stay s records w i j v ∙ e);
  own_need = λ v v' a e. g.own_need v v' a (all_stay s records w i j v ∙ e);
  end_need = λ v v' a e. g.end_need v v' a (all_stay s records w i j v ∙ e);
}

pub rises_without_KP : (s : State) (records : List (Bytes × ℕ)) → WithoutKP records → (i j : ℕ) → i ≤ j → Rises (at s records i) (at s records j)
unfolding Rises RisesBy stays
rises_without_KP s records w i j k v v' a e = (demand_3_at_every_depth s records).points i j k v v' a (all_stay s records w i j v ∙ e)
