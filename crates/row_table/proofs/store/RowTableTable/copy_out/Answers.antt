use Rattle.std.proofs.Common.{◌≡◌, ◌+◌, ◌-◌, take, drop, vec_items, sym, ◌∙◌, arith}
use Rattle.row_table.specs.Keeping.{count_is, record_is}
use Rattle.row_table.proofs.store.RowTableTable.copy_out.Goals as goal

pub returns : goal.returns
returns c =
    let t = c.args.self.now in
    let bytes = vec_items t.memory in
    let n = count_is t.bounds bytes t.kept in
    let from = c.place_of-from.result in
    let w : from + t.bounds.width - from ≡ t.bounds.width = omega arith in
    record {
      after =
          c.copy_from_slice.ensures.after
          ∙ (λ i. take (w i) (drop (c.place_of-from.ensures.value i) (c.deref.ensures.value i)))
          ∙ sym (record_is t.bounds bytes t.kept c.args.run c.requires.held.0 (omega (arith, c.requires.held.1, t.kept.window)));
    }
