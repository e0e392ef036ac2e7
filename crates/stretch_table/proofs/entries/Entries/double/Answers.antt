use Rattle.stretch_table.proofs.Steps.{double_turns}
use Rattle.stretch_table.proofs.entries.Entries.double.Goals as goal

pub invariant_of-self : goal.invariant_of-self
invariant_of-self c =
    let k = double_turns c.args.self.now _ c.args.i c.requires.within c.requires.room c.copy_within.ensures.items in
    record { sizes = c.args.self.now.sizes; values = k.values; fits = k.fits; rest = k.rest }

pub returns-clause-after : goal.returns-clause-after
returns-clause-after c = (double_turns c.args.self.now _ c.args.i c.requires.within c.requires.room c.copy_within.ensures.items).turns
