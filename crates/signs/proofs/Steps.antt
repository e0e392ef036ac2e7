-- The signs of a text are the next one and then the signs from behind it on.
use Rattle.std.proofs.Common.{◌≡◌, ℕ, zero, suc, ◌-◌, ◌<◌, ◌≤◌, List, length, refl, ap, arith}
use Rattle.signs.specs.Signs.{Kind, mark, name, end, Found, found, fault, next_sign}
use Rattle.signs.specs.Stands.{Stands}
use Rattle.signs.specs.Walk.{Signs, sign, then_signs, walk, signs_from}
use Rattle.signs.proofs.Law.{onward, signs_stand}

mark_goes : {m : _} → ◌≡◌ {A = Kind} (mark m) end → ⊥
mark_goes e = cc

name_goes : {w : List ℕ} → ◌≡◌ {A = Kind} (name w) end → ⊥
name_goes e = cc

-- the rest matters only behind a sign that stands
same_rest : (text : List ℕ) (at : ℕ) (r : Found) (g h : ℕ → Signs) → Stands text at r → ((e : ℕ) → at < e → e ≤ length text → g e ≡ h e) → then_signs r g ≡ then_signs r h
same_rest text at (fault e) g h s eq = refl
same_rest text at (found (mark m) f e) g h s eq = let o = onward s in ap (sign (mark m) f) (eq e (omega (arith, o.more mark_goes, o.from_on)) o.within)
same_rest text at (found (name w) f e) g h s eq = let o = onward s in ap (sign (name w) f) (eq e (omega (arith, o.more name_goes, o.from_on)) o.within)
same_rest text at (found end f e) g h s eq = refl

walk_enough : (n m : ℕ) (text : List ℕ) (at : ℕ) → at ≤ length text → length text - at < n → length text - at < m → walk n text at ≡ walk m text at
walk_enough zero m text at h a b = absurd (omega arith)
walk_enough (suc n) zero text at h a b = absurd (omega arith)
walk_enough (suc n) (suc m) text at h a b =
    same_rest text at (next_sign text at) (walk n text) (walk m text) (signs_stand text at h) (λ e up within. walk_enough n m text e within (omega arith) (omega arith))

pub signs_step : (text : List ℕ) (at : ℕ) → at ≤ length text → signs_from text at ≡ then_signs (next_sign text at) (signs_from text)
signs_step text at h =
    same_rest text at (next_sign text at) (walk (length text - at) text) (signs_from text) (signs_stand text at h)
    (λ e up within. walk_enough (length text - at) (suc (length text - e)) text e within (omega arith) (omega arith))
