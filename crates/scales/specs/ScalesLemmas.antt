-- The laws of the plain and the open scale. Assumes nothing.
use Rattle.std.specs.Prelude.{refl}
use Rattle.std.proofs.Common.{lit≤}
use Rattle.std.proofs.lemmas.Bool.{ltb-true}
use Rattle.scales.specs.Algebra.{Laws}
use Rattle.scales.specs.Scales.{plain, with_unknown}
use Rattle.scales.specs.Tables.{laws_by_test}

pub plain_laws : Laws plain
plain_laws = laws_by_test 2 (lit≤ tt) _ (λ a c. ltb-true a 2 c) refl

pub with_unknown_laws : Laws with_unknown
with_unknown_laws = laws_by_test 3 (lit≤ tt) _ (λ a c. ltb-true a 3 c) refl
