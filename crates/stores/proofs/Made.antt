-- What is known of a store that can be made. Assumes nothing.
use Rattle.std.proofs.Common.{◌≡◌, ℕ, ◌+◌, ◌*◌, ◌/◌, ◌≤◌, Ok, mul-le-mul_right, div-mul-le_self, arith}
use Rattle.std.proofs.lemmas.Bool.Decides.{nat_tests}
use Rattle.stores.specs.Making.{limit_in, making}

pub record Made (width head size limit : ℕ) : Type 0 where
  pub narrowest : 4 ≤ width
  pub widest : width ≤ 289
  pub fewest : 2 ≤ limit
  pub most : limit ≤ 4096
  pub inside : limit * (width + head) ≤ size

module _ (width head size limit : ℕ) (ok : making width head size ≡ Ok limit) where
  is : limit ≡ limit_in width head size
  is = grind (arith, nat_tests, ok)

  pub made : Made width head size limit
  made =
      let whole : size / (width + head) * (width + head) ≤ size = div-mul-le_self size (width + head) in
      let part : limit * (width + head) ≤ size / (width + head) * (width + head) = mul-le-mul_right (width + head) (omega (arith, is)) in
      record {
        narrowest = grind (arith, nat_tests, ok);
        widest = grind (arith, nat_tests, ok);
        fewest = grind (arith, nat_tests, ok);
        most = omega (arith, is);
        inside = omega arith;
      }
