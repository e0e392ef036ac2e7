use Rattle.std.proofs.Common.{◌≡◌, length, vec_items}
use Rattle.stores.specs.Meaning.{forgotten}
use Rattle.row_table.specs.Table.{means}
use Rattle.row_table.proofs.store.RowTableTable.drop_below.Given as goal

abbrev pub invariant-loop : goal.invariant-loop
invariant-loop l =
    let t = l.initial.self in
    record {
      low : l.self.bounds.low ≡ l.counter;
      high : l.self.bounds.high ≡ t.bounds.high;
      after : means l.self ≡ forgotten (means t) l.counter;
      same : length (vec_items l.self.memory) ≡ length (vec_items t.memory);
    }
