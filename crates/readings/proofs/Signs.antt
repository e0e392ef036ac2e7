-- The names among the signs from a place on, by the sign that is found there.
use Rattle.std.proofs.Common.{◌≡◌, ℕ, suc, true, false, cond, List, [], ◌++◌, sym, refl, ap, ◌∙◌}
use Rattle.signs.specs.declared.sign.Mark.TheVariants.{Semicolon}
use Rattle.signs.specs.declared.sign.Sign.{Sign}
use Rattle.signs.specs.declared.sign.Sign.TheVariants.{Mark, Name, End}
use Rattle.signs.specs.declared.sign.SignFault.{SignFault}
use Rattle.signs.specs.Signs.{Kind, mark, name, end, found, fault, kind_of, next_sign}
use Rattle.grammar.specs.Machine.{is_mark}
use Rattle.readings.specs.Written.{is_end, named, from_sign, declared}

module _ (text : List ℕ) (m n at : ℕ) (more : m ≡ suc n) where
  pub at_fault : (e : SignFault) → fault e ≡ next_sign text at → declared m text at ≡ []
  at_fault e is = ap (λ i. declared i text at) more ∙ sym (ap (λ x. from_sign x (declared n text)) is)

  module _ (k : Kind) (f e : ℕ) (is : found k f e ≡ next_sign text at) where
    by_sign : declared m text at ≡ cond (is_end k) [] (named k ++ declared n text e)
    by_sign = ap (λ i. declared i text at) more ∙ sym (ap (λ x. from_sign x (declared n text)) is)

    pub at_end : true ≡ is_end k → declared m text at ≡ []
    at_end ends = by_sign ∙ sym (ap (λ b. cond b [] (named k ++ declared n text e)) ends)

    pub at_sign : false ≡ is_end k → declared m text at ≡ named k ++ declared n text e
    at_sign goes = by_sign ∙ sym (ap (λ b. cond b [] (named k ++ declared n text e)) goes)

-- what ends the names is the mark
pub end_is_mark : (k : Kind) → is_mark Semicolon k ≡ is_end k
end_is_mark (mark Semicolon) = refl
end_is_mark (mark m) = refl
end_is_mark (name w) = refl
end_is_mark end = refl

pub no_name : (s : Sign) → ((w : _) → s ≡ Name w → ⊥) → named (kind_of s) ≡ []
no_name (Mark m) other = refl
no_name (Name w) other = absurd (other w refl)
no_name End other = refl
