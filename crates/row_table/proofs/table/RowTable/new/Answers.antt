use Rattle.std.proofs.Common.{sym, ◌∙◌, vec_items}
use Rattle.row_table.specs.Keeping.{kept_again}
use Rattle.row_table.proofs.Calls.{clears}
use Rattle.row_table.proofs.table.RowTable.new.Goals as goal

pub invariant_of-result : goal.invariant_of-result
invariant_of-result c =
    record { kept = kept_again (clears c.args.width c.in-Ok.limit c.len.result (vec_items c.fill.new.self) (sym c.limit_in.ensures.value ∙ c.in-Ok.is) (c.fill.ensures.items (λ y h. h) ∙ (cc))) }
