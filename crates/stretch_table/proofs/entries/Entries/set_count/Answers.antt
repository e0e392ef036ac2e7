use Rattle.std.proofs.Common.{arith}
use Rattle.stretch_table.proofs.Steps.{count_turns}
use Rattle.stretch_table.proofs.entries.Entries.set_count.Goals as goal

pub invariant_of-self : goal.invariant_of-self
invariant_of-self c =
    let k = count_turns c.args.self.now c.deref_mut.result.now c.put_number.new.m c.deref_mut.ensures.value (omega arith) c.args.i c.start-at.result c.requires c.start-at.ensures.value c.args.count (omega arith) c.put_number.ensures.after in
    record { sizes = c.args.self.now.sizes; values = k.values; fits = k.fits; rest = k.rest }

pub returns-clause-after : goal.returns-clause-after
returns-clause-after c =
    (count_turns c.args.self.now c.deref_mut.result.now c.put_number.new.m c.deref_mut.ensures.value (omega arith) c.args.i c.start-at.result c.requires c.start-at.ensures.value c.args.count (omega arith) c.put_number.ensures.after).turns
