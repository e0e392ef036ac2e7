use Rattle.std.proofs.Common.{vec_items, vec_len, refl, arith}
use Rattle.stores.specs.declared.bounds.Bounds.{Bounds}
use Rattle.stretch_table.proofs.Calls.{clears}
use Rattle.stretch_table.proofs.Keeping.{kept_again}
use Rattle.stretch_table.proofs.table.StretchRecords.new.Goals as goal

pub invariant_of-result : goal.invariant_of-result
invariant_of-result c =
    let b : Bounds = record { width = c.args.width; limit = c.args.limit; low = 1; high = 0 } in
    let h = clears b (vec_len c.args.memory) (vec_items c.fill.new.self) c.requires refl refl (c.fill.ensures.items (λ y h. h)) in
    let k = kept_again h in
    record { sizes = h.sizes; values = k.values; fits = omega arith; rest = h.holds.is }

pub invariant_of-result-2 : goal.invariant_of-result-2
invariant_of-result-2 c =
    let b : Bounds = record { width = c.args.width; limit = c.args.limit; low = 1; high = 0 } in
    let h = clears b (vec_len c.args.memory) (vec_items c.fill.new.self) c.requires refl refl (c.fill.ensures.items (λ y h. h)) in
    record { kept = kept_again h }
