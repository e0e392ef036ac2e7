use Rattle.std.proofs.Common.{arith}
use Rattle.stretch_table.proofs.Steps.{remove_leaves}
use Rattle.stretch_table.proofs.entries.Entries.remove.Goals as goal

pub invariant_of-self : goal.invariant_of-self
invariant_of-self c =
    let k = remove_leaves c.args.self.now c.deref_mut.result.now c.shift_down.new.m c.deref_mut.ensures.value (omega arith) c.args.from c.args.to c.requires.within.0 c.requires.within.1 c.shift_down.ensures.after in
    record { sizes = c.args.self.now.sizes; values = k.values; fits = k.fits; rest = k.rest }

pub returns-clause-after : goal.returns-clause-after
returns-clause-after c =
    (remove_leaves c.args.self.now c.deref_mut.result.now c.shift_down.new.m c.deref_mut.ensures.value (omega arith) c.args.from c.args.to c.requires.within.0 c.requires.within.1 c.shift_down.ensures.after).left
