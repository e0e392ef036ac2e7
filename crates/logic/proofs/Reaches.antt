-- The reach of a report: which runs it moves, counted. Assumes nothing.
use Rattle.std.proofs.Common.{◌≡◌, ℕ, zero, suc, ◌+◌, ◌-◌, ◌<◌, ◌≤◌, Bool, true, false, not, ◌&&◌, eqb, ltb, ◌⊎◌, List, [], ◌∷◌, map, sym, refl, ap, ◌∙◌, ap₂, inl, inr, arith}
use Rattle.std.proofs.lemmas.Bool.{cases_Bool, cases_lt, le-ltb, lt-ltb, and_right, or_parts, or_from, not-false, not_from_true, eqb-true, eq-eqb, both_ways}
use Rattle.scales.specs.Algebra.{Algebra, Laws}
use Rattle.lines.specs.declared.line.Line.{Line}
use Rattle.lines.specs.Forms.{Form}
use Rattle.lines.specs.Stands.{forms, well_formed}
use Rattle.logic.specs.History.{Event, History, report, high}
use Rattle.logic.specs.Truth.{truth}
use Rattle.logic.specs.Rows.{tally, some_form, row, moves, reach}
use Rattle.logic.specs.Reach.{Stays, CountStops, RunsFollow}
use Rattle.logic.proofs.Events.{no_gap}

-- some form differs exactly where the lists of all do
module _ (v w : Form → ℕ) where
  some_none : (fs : List Form) → map w fs ≡ map v fs → some_form (λ f. not (eqb (v f) (w f))) fs ≡ false
  some_none [] e = refl
  some_none (f ∷ fs) e =
      let head : v f ≡ w f = cc in
      let rest : map w fs ≡ map v fs = cc in
      or_from (not (eqb (v f) (w f))) (some_form (λ g. not (eqb (v g) (w g))) fs) (not_from_true (eqb (v f) (w f)) (eq-eqb (v f) (w f) head)) (some_none fs rest)

  none_some : (fs : List Form) → some_form (λ f. not (eqb (v f) (w f))) fs ≡ false → map w fs ≡ map v fs
  none_some [] e = refl
  none_some (f ∷ fs) e =
      let parts = or_parts (not (eqb (v f) (w f))) (some_form (λ g. not (eqb (v g) (w g))) fs) e in
      ap₂ ◌∷◌ (sym (eqb-true (v f) (w f) (not-false (eqb (v f) (w f)) parts.0))) (none_some fs parts.1)

-- an event moves a run exactly where its row differs
pub stays_unmoved : (S : Algebra) (ls : List Line) (e : Event) (h : History) (s : ℕ) → row S ls (e ∷ h) s ≡ row S ls h s → moves S ls e h s ≡ false
stays_unmoved S ls e h s = some_none (λ f. truth S f h s) (λ f. truth S f (e ∷ h) s) (forms ls)

pub unmoved_stays : (S : Algebra) (ls : List Line) (e : Event) (h : History) (s : ℕ) → moves S ls e h s ≡ false → row S ls (e ∷ h) s ≡ row S ls h s
unmoved_stays S ls e h s = none_some (λ f. truth S f h s) (λ f. truth S f (e ∷ h) s) (forms ls)

pub differs_moved : (S : Algebra) (ls : List Line) (e : Event) (h : History) (s : ℕ) → (row S ls (e ∷ h) s ≡ row S ls h s → ⊥) → moves S ls e h s ≡ true
differs_moved S ls e h s d = elim (cases_Bool (moves S ls e h s)) [
  | inl m ↦ m
  | inr m ↦ absurd (d (unmoved_stays S ls e h s m))
]

-- the count, of any test that passes just from above r to s
module _ (d : ℕ → Bool) (r : ℕ) where
  tally_none : (m : ℕ) → m ≤ r → tally (λ t. ltb r t && d t) m ≡ 0
  tally_none zero le = refl
  tally_none (suc m) le = rw (le-ltb r (suc m) le) (tally_none m (omega arith))

  tally_is : (m s : ℕ) → r ≤ s → s ≤ m → ((t : ℕ) → r < t → t ≤ s → d t ≡ true) → ((t : ℕ) → s < t → t ≤ m → d t ≡ false) → tally (λ t. ltb r t && d t) m ≡ s - r
  tally_is zero s lo hi on off = omega arith
  tally_is (suc m) s lo hi on off = elim (cases_lt m s) [
    | inl top ↦ elim (cases_lt r (suc m)) [
      | inl l ↦ rw (
        lt-ltb r (suc m) l,
        on (suc m) l (omega arith),
        tally_is m m (omega arith) (omega arith) (λ t a b. on t a (omega arith)) (λ t a b. absurd (omega arith)),
      ) (omega arith)
      | inr l ↦ tally_none (suc m) l ∙ omega arith
    ]
    | inr l ↦ rw (and_right (ltb r (suc m)) (d (suc m)) (off (suc m) (omega arith) (omega arith))) (tally_is m s lo l on (λ t a b. off t a (omega arith)))
  ]

pub count_stops : CountStops
count_stops S L n ls ok h r q s lo hi on stop = (
  ap suc (tally_is (moves S ls (report r q) h) r (high h) s lo hi (λ t a b. differs_moved S ls (report r q) h t (on t a b)) (λ t a b. stays_unmoved S ls (report r q) h t (above t a b))),
  above,
)
  where
    above : (t : ℕ) → s < t → t ≤ high h → Stays S ls h r q t
    above zero a b = absurd (omega arith)
    above (suc t) a b = elim (cases_lt s t) [
      | inl l ↦ no_gap S L n ls ok h r q t (omega arith) (above t l (omega arith))
      | inr l ↦ elim stop [
        | inl e ↦ absurd (omega arith)
        | inr e ↦ let here : s ≡ t = omega arith in rw here at e
      ]
    ]

-- where a walk up from r comes to a stop
pub record Stop (S : Algebra) (ls : List Line) (h : History) (r : ℕ) (q : List ℕ) (s : ℕ) : Type 0 where
  pub up : r ≤ s
  pub most : s ≤ high h
  pub moved : (t : ℕ) → r < t → t ≤ s → Stays S ls h r q t → ⊥
  pub ends : (s ≡ high h) ⊎ Stays S ls h r q (suc s)

-- with k runs to go
walk : (S : Algebra) (ls : List Line) (h : History) (r : ℕ) (q : List ℕ) (k s : ℕ) → k + s ≡ high h → r ≤ s →
    ((t : ℕ) → r < t → t ≤ s → Stays S ls h r q t → ⊥) → (t : ℕ) × Stop S ls h r q t
walk S ls h r q zero s e lo on = (s, record { up = lo; most = omega arith; moved = on; ends = inl (omega arith) })
walk S ls h r q (suc k) s e lo on = elim (cases_Bool (moves S ls (report r q) h (suc s))) [
  | inl m ↦ walk S ls h r q k (suc s) (omega arith) (omega arith) (λ t a b stays. elim (cases_lt s t) [
    | inl l ↦ let here : t ≡ suc s = omega arith in both_ways (moves S ls (report r q) h (suc s)) (stays_unmoved S ls (report r q) h (suc s) (rw here at stays)) m
    | inr l ↦ on t a l stays
  ])
  | inr m ↦ (s, record { up = lo; most = omega arith; moved = on; ends = inr (unmoved_stays S ls (report r q) h (suc s) m) })
]

-- the last run that a report of r moves, r itself included
pub last_moved : (S : Algebra) → Laws S → (n : ℕ) (ls : List Line) → well_formed n 0 ls ≡ true → (h : History) (r : ℕ) (q : List ℕ) → r ≤ high h →
    (s : ℕ) × (r ≤ s) × (s ≤ high h) × (reach S ls r q h ≡ suc (s - r))
last_moved S L n ls ok h r q hi =
    let at = walk S ls h r q (high h - r) r (omega arith) (omega arith) (λ t a b. absurd (omega arith)) in
    let stop = at.1 in
    (at.0, stop.up, stop.most, (count_stops S L n ls ok h r q at.0 stop.up stop.most stop.moved stop.ends).0)

pub runs_follow : RunsFollow
runs_follow S L n ls ok h r q s lo hi =
    let at = walk S ls h r q (high h - r) r (omega arith) (omega arith) (λ t a b. absurd (omega arith)) in
    let top = at.0 in
    let stop = at.1 in
    let up = stop.up in
    let done = count_stops S L n ls ok h r q top stop.up stop.most stop.moved stop.ends in
    let size = done.0 in
    (λ l. stop.moved s lo (omega arith), λ l. done.1 s (omega arith) hi)
