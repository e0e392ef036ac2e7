-- A store whose numbers are in bounds and whose records have its width is sound. Assumes nothing.
use Rattle.std.proofs.Common.{◌≡◌, length, ap, arith}
use Rattle.std.specs.List.{AllByRecursion}
use Rattle.stores.specs.Bounds.{bounds_of, Sizes, Window}
use Rattle.stores.specs.Meaning.{Meaning, IsRecord, Sound}

pub sound_from : (m : Meaning) → Sizes (bounds_of m) → Window (bounds_of m) → AllByRecursion (IsRecord m.width) m.records → Sound m
sound_from m sizes window fit =
    record {
      narrowest = sizes.0;
      widest = sizes.1;
      fewest = sizes.2;
      most = sizes.3;
      first = window.0;
      last = window.2;
      room = omega (arith, window);
      fit = fit;
      start = λ none. let n : length m.records ≡ 0 = ap length none in window.4 (omega (arith, window));
    }
