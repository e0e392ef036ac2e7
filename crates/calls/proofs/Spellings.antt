-- Digits read one by one, and that bytes spell at most one call.
use Rattle.std.proofs.Common.{◌≡◌, ℕ, ◌+◌, ◌-◌, ◌<◌, ◌≤◌, min, Bool, true, false, List, [], ◌∷◌, ◌++◌, length, get_or, set, take, drop, MatchBool, sym, refl, ap, ◌∙◌, subst, ⊎_elim, arith, length-append}
use Rattle.std.proofs.lemmas.List.{take_all, take_min, take-map, take_more_set, map_more, length-map, get_or_at, length-take-le}
use Rattle.std.proofs.lemmas.Str.Parse.{IsNumeralModel, numerals_by_value, tells_by_index, tells_digits, digit_at, digits_value_short}
use Rattle.std.specs.Str.Parse.{AllDigits, digits_value}
use Rattle.std.proofs.lemmas.Bool.Decides.{nat_tests}
use Rattle.std.specs.Int.{IsInRange, IsOutOfRange}
use Rattle.std.specs.Char.{digit_value as char_digit_value}
use Rattle.std.specs.List.{AllWithin, HoldsAt}
use Rattle.calls.specs.Input.{Lacks, CutAt}
use Rattle.calls.proofs.Cuts.{lacks_tail}
use Rattle.calls.specs.Spelling.{digit_value, digit_values, Codes, RunNumber, RunAndCodes, Said, codes_in, start, report, preview, close, verdict, Spells, OneCall}

-- a digit's value, as the library has it
pub digit_is : (c : ℕ) → IsInRange 48 57 c → char_digit_value c ≡ c - 48
digit_is c h = grind (arith, nat_tests)

pub digits_told : (r : Bool) (xs : List ℕ) → MatchBool r (AllWithin (IsInRange 48 57) xs 0 (length xs)) ((k : ℕ) × (k < length xs) × HoldsAt (IsOutOfRange 48 57) xs k) → MatchBool r (AllDigits 10 xs) (AllDigits 10 xs → ⊥)
digits_told true xs h = (numerals_by_value _ tells_by_index).to xs (λ i lt. h i 0 (omega arith) lt)
digits_told false xs h = λ all. let d = digit_at xs h.0 all h.1 in ⊎_elim (λ a. omega (arith, d.0)) (λ a. omega (arith, d.1)) (h.2 0)

numerals : IsNumeralModel (AllDigits 10) (digits_value 10)
numerals = numerals_by_value (AllDigits 10) tells_digits

-- the number of fewer than six digits leaves room for one more
pub room : (xs : List ℕ) (i : ℕ) → AllDigits 10 (take i xs) → i ≤ length xs → i ≤ 5 → digits_value 10 (take i xs) < 100000
room xs i all le few = digits_value_short numerals (take i xs) 5 all (rw (length-take-le i xs le) few)

-- there is one cut at the first z
pub same_cut : (z : ℕ) (a b c d : List ℕ) → Lacks z a → Lacks z c → a ++ (z ∷ b) ≡ c ++ (z ∷ d) → (a ≡ c) × (b ≡ d)
same_cut z [] b [] d la lc e = (refl, ap (drop 1) e)
same_cut z [] b (y ∷ c) d la lc e = absurd (lc 0 (omega arith) (sym (ap (λ l. get_or l 0 0) e)))
same_cut z (x ∷ a) b [] d la lc e = absurd (la 0 (omega arith) (ap (λ l. get_or l 0 0) e))
same_cut z (x ∷ a) b (y ∷ c) d la lc e =
    let head : x ≡ y = ap (λ l. get_or l 0 0) e in
    let rest = same_cut z a b c d (lacks_tail z x a la) (lacks_tail z y c lc) (ap (drop 1) e) in
    let tail = rest.0 in
    (cc, rest.1)

digits_lack : (ds : List ℕ) → AllDigits 10 ds → Lacks 32 ds
digits_lack ds all k lt e = omega (arith, (digit_at ds k all lt).0)

pub no_blank : (bs : List ℕ) → Lacks 32 bs → (n : ℕ) (cs : List ℕ) → RunAndCodes bs n cs → ⊥
no_blank bs none n cs h =
    let at = get_or_at h.number_digits 32 h.code_digits 0 (length h.number_digits) refl in
    let long = ap length h.cut ∙ length-append h.number_digits (32 ∷ h.code_digits) in
    none (length h.number_digits) (omega arith) (ap (λ l. get_or l (length h.number_digits) 0) h.cut ∙ at)

pub one_cut : (bs a b : List ℕ) → CutAt 32 bs a b → (n : ℕ) (cs : List ℕ) → RunAndCodes bs n cs → RunNumber a n × Codes b cs
one_cut bs a b cut n cs h =
    let same = same_cut 32 h.number_digits h.code_digits a b (digits_lack h.number_digits h.number.all) cut.1 (sym h.cut ∙ cut.0) in
    (subst (λ l. RunNumber l n) same.0 h.number, subst (λ l. Codes l cs) same.1 h.coded)

-- bytes that begin with two known ones
pub opened : (xs : List ℕ) (a b : ℕ) → 2 ≤ length xs → get_or xs 0 0 ≡ a → get_or xs 1 0 ≡ b → xs ≡ a ∷ b ∷ take (length xs - 2) (drop 2 xs)
opened [] a b l p q = absurd (omega arith)
opened (x ∷ []) a b l p q = absurd (omega arith)
opened (x ∷ y ∷ ys) a b l p q = let e = take_all (length (x ∷ y ∷ ys) - 2) ys (omega arith) in cc

head : {xs ys zs : List ℕ} (a b : ℕ) → xs ≡ a ∷ ys → xs ≡ b ∷ zs → a ≡ b
head a b p q = ap (λ l. get_or l 0 0) (sym p ∙ q)

tail : {xs ys zs : List ℕ} {a b c d : ℕ} → xs ≡ a ∷ b ∷ ys → xs ≡ c ∷ d ∷ zs → zs ≡ ys
tail p q = ap (drop 2) (sym q ∙ p)

-- a line that begins as a report or a preview, and has no run and codes behind that, spells no call
pub no_run_call : (xs rest : List ℕ) (b : ℕ) → 80 ≤ b → b < 86 → xs ≡ b ∷ 32 ∷ rest → ((n : ℕ) (cs : List ℕ) → RunAndCodes rest n cs → ⊥) → (c : Said) → Spells c xs → ⊥
no_run_call xs rest b low high e no' (start cs) h = omega (arith, head b 78 e h.1)
no_run_call xs rest b low high e no' (report n cs) h = no' n cs (subst (λ l. RunAndCodes l n cs) (tail e h.1) h.2)
no_run_call xs rest b low high e no' (preview n cs) h = no' n cs (subst (λ l. RunAndCodes l n cs) (tail e h.1) h.2)
no_run_call xs rest b low high e no' (close n) h = omega (arith, head b 69 e h.1)
no_run_call xs rest b low high e no' verdict h = omega (arith, head b 86 e h)

letter : Said → ℕ
letter (start cs) = 78
letter (report n cs) = 85
letter (preview n cs) = 80
letter (close n) = 69
letter verdict = 86

first_letter : (s : Said) (bs : List ℕ) → Spells s bs → get_or bs 0 0 ≡ letter s
unfolding letter
first_letter (start cs) bs h = ap (λ l. get_or l 0 0) h.1
first_letter (report n cs) bs h = ap (λ l. get_or l 0 0) h.1
first_letter (preview n cs) bs h = ap (λ l. get_or l 0 0) h.1
first_letter (close n) bs h = ap (λ l. get_or l 0 0) h.1
first_letter verdict bs h = ap (λ l. get_or l 0 0) h

same_letter : (bs : List ℕ) (s t : Said) → Spells s bs → Spells t bs → letter s ≡ letter t
same_letter bs s t h k = sym (first_letter s bs h) ∙ first_letter t bs k

same_run : (ds es : List ℕ) (m n : ℕ) → ds ≡ es → RunNumber ds m → RunNumber es n → m ≡ n
same_run ds es m n e a b = a.writes ∙ ap (digits_value 10) e ∙ sym b.writes

same_codes : (ds es cs cs' : List ℕ) → ds ≡ es → Codes ds cs → Codes es cs' → cs ≡ cs'
same_codes ds es cs cs' e a b = a.values ∙ ap digit_values e ∙ sym b.values

same_run_codes : (xs ys : List ℕ) (m n : ℕ) (cs cs' : List ℕ) → xs ≡ ys → RunAndCodes xs m cs → RunAndCodes ys n cs' → (m ≡ n) × (cs ≡ cs')
same_run_codes xs ys m n cs cs' e a b =
    let cut = same_cut 32 a.number_digits a.code_digits b.number_digits b.code_digits (digits_lack _ a.number.all) (digits_lack _ b.number.all) (sym a.cut ∙ e ∙ b.cut) in
    (same_run _ _ m n cut.0 a.number b.number, same_codes _ _ cs cs' cut.1 a.coded b.coded)

pub one_call : OneCall
unfolding letter
one_call bs (start cs) (start cs') h k = ap start (same_codes h.0 k.0 cs cs' (tail k.1 h.1) h.2 k.2)
one_call bs (report n cs) (report n' cs') h k = let e = same_run_codes h.0 k.0 n n' cs cs' (tail k.1 h.1) h.2 k.2 in let p = e.0 in let q = e.1 in cc
one_call bs (preview n cs) (preview n' cs') h k = let e = same_run_codes h.0 k.0 n n' cs cs' (tail k.1 h.1) h.2 k.2 in let p = e.0 in let q = e.1 in cc
one_call bs (close n) (close n') h k = ap close (same_run h.0 k.0 n n' (tail k.1 h.1) h.2 k.2)
one_call bs verdict verdict h k = refl
one_call bs s t h k = absurd (omega (arith, same_letter bs s t h k))

-- one more digit's value behind those in the room
pub values_more : (xs room : List ℕ) (i : ℕ) → i < length xs → i < length room → take i room ≡ digit_values (take i xs) → take (i + 1) (set room i (get_or xs i 0 - 48)) ≡ digit_values (take (i + 1) xs)
values_more xs room i lt lt' e = take_more_set room i (get_or xs i 0 - 48) lt' ∙ ap (λ l. l ++ ((get_or xs i 0 - 48) ∷ [])) e ∙ sym (map_more digit_value xs i 0 lt)

-- all digits, or the first 64 of more
pub values_kept : (xs room : List ℕ) (i : ℕ) → i ≡ min 64 (length xs) → take i room ≡ digit_values (take i xs) → take i room ≡ take 64 (digit_values xs)
values_kept xs room i is e = e ∙ ap (λ n. digit_values (take n xs)) is ∙ ap digit_values (take_min 64 xs) ∙ sym (take-map digit_value 64 xs)

all_values : (ds cs : List ℕ) → Codes ds cs → take 64 cs ≡ cs
all_values ds cs h = let long : length cs ≤ 64 = omega (arith, h.few, ap length h.values ∙ length-map ds digit_value) in take_all 64 cs long

-- the codes of a call that a line spells have room
pub all_codes : (s : Said) (bs : List ℕ) → Spells s bs → take 64 (codes_in s) ≡ codes_in s
all_codes (start cs) bs h = all_values h.0 cs h.2
all_codes (report n cs) bs h = all_values h.2.code_digits cs h.2.coded
all_codes (preview n cs) bs h = all_values h.2.code_digits cs h.2.coded
all_codes (close n) bs h = refl
all_codes verdict bs h = refl
