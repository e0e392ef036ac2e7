use Rattle.std.proofs.Common.{arith}
use Rattle.stores.proofs.Bytes.{bytes_read}
use Rattle.stretch_table.proofs.Steps.{record_turns}
use Rattle.stretch_table.proofs.entries.Entries.set_record.Goals as goal

pub invariant_of-self : goal.invariant_of-self
invariant_of-self c =
    let rec = c.args.rec.now in
    let k = record_turns c.args.self.now c.deref_mut.result.now c.put.new.m c.deref_mut.ensures.value (omega arith) c.args.i c.start-at.result c.requires.within c.start-at.ensures.value rec (bytes_read rec c.type_inv.rec) c.requires.long c.put.ensures.after in
    record { sizes = c.args.self.now.sizes; values = k.values; fits = k.fits; rest = k.rest }

pub returns-clause-after : goal.returns-clause-after
returns-clause-after c =
    let rec = c.args.rec.now in
    (record_turns c.args.self.now c.deref_mut.result.now c.put.new.m c.deref_mut.ensures.value (omega arith) c.args.i c.start-at.result c.requires.within c.start-at.ensures.value rec (bytes_read rec c.type_inv.rec) c.requires.long c.put.ensures.after).turns
