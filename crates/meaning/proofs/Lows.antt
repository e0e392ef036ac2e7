-- The lowest run that passes a test, and the lowest run that is kept. Assumes nothing.
use Rattle.std.proofs.Common.{◌≡◌, ℕ, zero, suc, ◌+◌, ◌-◌, ◌<◌, ◌≤◌, max, Bool, true, false, cond, Some, None, Option, unwrap_or, sym, refl, ap, ◌∙◌, inl, inr, add-zero, arith}
use Rattle.std.proofs.lemmas.Bool.{cases_lt, false≢true}
use Rattle.logic.specs.History.{History, high, opened}
use Rattle.meaning.specs.Kept.{lowest, lowest_open, low_by, low}

-- the lowest of the k numbers from n on that passes, or the number behind them
abbrev pub first_up : (ℕ → Bool) → ℕ → ℕ → ℕ
first_up t n zero = n
first_up t n (suc k) = cond (t n) n (first_up t (n + 1) k)

lowest_or : (t : ℕ → Bool) (n k : ℕ) → unwrap_or (lowest t n k) (n + k) ≡ first_up t n k
lowest_or t n zero = add-zero n
lowest_or t n (suc k) = let same : n + suc k ≡ n + 1 + k = omega arith in ap (unwrap_or (cond (t n) (Some n) (lowest t (n + 1) k))) same ∙ at (t n) (lowest_or t (n + 1) k)
  where
    at : (b : Bool) → unwrap_or (lowest t (n + 1) k) (n + 1 + k) ≡ first_up t (n + 1) k → unwrap_or (cond b (Some n) (lowest t (n + 1) k)) (n + 1 + k) ≡ cond b n (first_up t (n + 1) k)
    at true e = refl
    at false e = e

pub low_is : (h : History) → low h ≡ max 1 (first_up (opened h) 1 (high h) - 1)
low_is h = by (lowest_open h) ∙ ap (λ n. max 1 (n - 1)) (lowest_or (opened h) 1 (high h))
  where
    by : (o : Option ℕ) → low_by (high h) o ≡ max 1 (unwrap_or o (1 + high h) - 1)
    by None = let e : high h ≡ 1 + high h - 1 = omega arith in ap (max 1) e
    by (Some r) = refl

-- bounds
first_to : (t : ℕ → Bool) (n k : ℕ) → first_up t n k ≤ n + k
first_to t n zero = omega arith
first_to t n (suc k) = at (t n) (first_up t (n + 1) k) (first_to t (n + 1) k)
  where
    at : (b : Bool) (m : ℕ) → m ≤ n + 1 + k → cond b n m ≤ n + suc k
    at true m le = omega arith
    at false m le = omega arith

first_from : (t : ℕ → Bool) (n k : ℕ) → n ≤ first_up t n k
first_from t n zero = omega arith
first_from t n (suc k) = at (t n) (first_up t (n + 1) k) (first_from t (n + 1) k)
  where
    at : (b : Bool) (m : ℕ) → n + 1 ≤ m → n ≤ cond b n m
    at true m l = omega arith
    at false m l = omega arith

first_most : (t : ℕ → Bool) (n k s : ℕ) → n ≤ s → s < n + k → t s ≡ true → first_up t n k ≤ s
first_most t n zero s a b e = omega arith
first_most t n (suc k) s a b e = elim (cases_lt n s) [
  | inl l ↦ most (t n) (first_up t (n + 1) k) (first_most t (n + 1) k s (omega arith) (omega arith) e)
  | inr l ↦ let here : s ≡ n = omega arith in let at : t n ≡ true = ap t (sym here) ∙ e in rw at (omega arith)
]
  where
    most : (b : Bool) (m : ℕ) → m ≤ s → cond b n m ≤ s
    most true m le = a
    most false m le = le

first_fewer : (t u : ℕ → Bool) (k n : ℕ) → ((j : ℕ) → u j ≡ true → t j ≡ true) → first_up t n k ≤ first_up u n k
first_fewer t u zero n less = omega arith
first_fewer t u (suc k) n less = let l = first_fewer t u k (n + 1) less in let g = first_from u (n + 1) k in at (t n) (u n) (less n) l g
  where
    at : (a b : Bool) → (b ≡ true → a ≡ true) → first_up t (n + 1) k ≤ first_up u (n + 1) k → n + 1 ≤ first_up u (n + 1) k → cond a n (first_up t (n + 1) k) ≤ cond b n (first_up u (n + 1) k)
    at true true f l g = omega arith
    at true false f l g = omega arith
    at false true f l g = absurd (false≢true (f refl))
    at false false f l g = l

-- one more number at the end that passes changes nothing of the first that does
first_more : (t u : ℕ → Bool) (k n : ℕ) → ((j : ℕ) → n ≤ j → j < n + k → u j ≡ t j) → u (n + k) ≡ true → first_up u n (suc k) ≡ first_up t n k
first_more t u zero n same last = ap (λ b. cond b n (n + 1)) (ap u (sym (add-zero n)) ∙ last)
first_more t u (suc k) n same last =
    let at : n + suc k ≡ n + 1 + k = omega arith in
    ap (λ b. cond b n (first_up u (n + 1) (suc k))) (same n (omega arith) (omega arith))
    ∙ ap (cond (t n) n) (first_more t u k (n + 1) (λ j a b. same j (omega arith) (omega arith)) (ap u (sym at) ∙ last))

pub low_below : (h : History) → low h ≤ high h + 1
low_below h = let is = low_is h in let a = first_to (opened h) 1 (high h) in omega arith

pub low_most : (h : History) → 1 ≤ high h → low h ≤ high h
low_most h l = let is = low_is h in let a = first_to (opened h) 1 (high h) in omega arith

pub low_first : (h : History) → 1 ≤ low h
low_first h = let is = low_is h in omega arith

-- a run that is open is kept, and the one below it too
pub low_open : (h : History) (s : ℕ) → 1 ≤ s → s ≤ high h → opened h s ≡ true → (low h ≤ s) × (1 < s → low h ≤ s - 1)
low_open h s a b e = let is = low_is h in let m = first_most (opened h) 1 (high h) s a (omega arith) e in (omega arith, λ l. omega arith)

-- where no more runs are open, no lower one is kept
pub low_fewer : (g h : History) → high g ≡ high h → ((j : ℕ) → opened g j ≡ true → opened h j ≡ true) → low h ≤ low g
low_fewer g h e less =
    let is-g = low_is g ∙ ap (λ n. max 1 (first_up (opened g) 1 n - 1)) e in
    let is-h = low_is h in
    let l = first_fewer (opened h) (opened g) (high h) 1 less in
    omega arith

-- one more run that is open at the end leaves the lowest that is kept
pub low_opened : (g h : History) → high g ≡ suc (high h) → ((j : ℕ) → 1 ≤ j → j ≤ high h → opened g j ≡ opened h j) → opened g (1 + high h) ≡ true → low g ≡ low h
low_opened g h e same last =
    low_is g ∙ ap (λ n. max 1 (first_up (opened g) 1 n - 1)) e
    ∙ ap (λ n. max 1 (n - 1)) (first_more (opened h) (opened g) (high h) 1 (λ j a b. same j a (omega arith)) last) ∙ sym (low_is h)

-- the same search over another stretch
pub lowest_same : (t u : ℕ → Bool) (k n : ℕ) → ((j : ℕ) → n ≤ j → j < n + k → u j ≡ t j) → lowest u n k ≡ lowest t n k
lowest_same t u zero n same = refl
lowest_same t u (suc k) n same =
    ap (λ b. cond b (Some n) (lowest u (n + 1) k)) (same n (omega arith) (omega arith))
    ∙ ap (cond (t n) (Some n)) (lowest_same t u k (n + 1) (λ j a b. same j (omega arith) (omega arith)))

pub lowest_skip : (t : ℕ → Bool) (k l n : ℕ) → ((j : ℕ) → n ≤ j → j < n + k → t j ≡ false) → lowest t n (k + l) ≡ lowest t (n + k) l
lowest_skip t zero l n none = let e : n ≡ n + 0 = omega arith in let f : 0 + l ≡ l = omega arith in ap (lowest t n) f ∙ ap (λ i. lowest t i l) e
lowest_skip t (suc k) l n none =
    let e : suc k + l ≡ suc (k + l) = omega arith in
    let f : n + 1 + k ≡ n + suc k = omega arith in
    ap (lowest t n) e ∙ ap (λ b. cond b (Some n) (lowest t (n + 1) (k + l))) (none n (omega arith) (omega arith))
    ∙ lowest_skip t k l (n + 1) (λ j a b. none j (omega arith) (omega arith)) ∙ ap (λ i. lowest t i l) f
