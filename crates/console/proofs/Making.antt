-- A table for 64 records can be made. Assumes nothing.
use Rattle.std.proofs.Common.{◌≡◌, ℕ, ◌+◌, ◌*◌, ◌/◌, ◌<◌, ◌≤◌, min, cond, ltb, Ok, Err, ap, ◌∙◌, add-zero, mul-div_cancel, arith}
use Rattle.std.proofs.lemmas.Bool.{le-ltb, or_from, cond-false}
use Rattle.stores.specs.declared.fault.StoreFault.TheVariants.{Unfit}
use Rattle.stores.specs.Making.{making}

pub makes_64 : (width size : ℕ) → 4 ≤ width → width ≤ 289 → size ≡ 64 * width → making width 0 size ≡ Ok 64
makes_64 width size narrow wide is =
    let fits = or_from (ltb width 4) (ltb 289 width) (le-ltb width 4 narrow) (le-ltb 289 width wide) in
    let some : 0 < width = omega arith in
    let whole : size / (width + 0) ≡ 64 = ap (λ w. size / w) (add-zero width) ∙ ap (λ s. s / width) is ∙ mul-div_cancel 64 some in
    cond-false _ _ _ fits ∙ ap (λ q. cond (ltb (min q 4096) 2) (Err Unfit) (Ok (min q 4096))) whole
