use Rattle.std.proofs.Common.{[], replicate}
use Rattle.stretch_table.specs.Stretches.{stretch}
use Rattle.stretch_table.specs.Held.{held}
use Rattle.stretch_table.proofs.Held.{many}
use Rattle.stretch_table.proofs.Steps.{grown}
use Rattle.stretch_table.proofs.entries.Entries.push.Goals as goal

pub invariant_of-self : goal.invariant_of-self
invariant_of-self c =
    let es = c.args.self.now in
    let k = grown es c.requires.room in
    record { sizes = es.sizes; values = k.values; fits = k.fits; rest = k.rest }

pub returns-clause-after : goal.returns-clause-after
returns-clause-after c =
    let es = c.args.self.now in
    let zeros = replicate es.bounds.width 0 in
    let with_runs = c.set_runs.ensures.after (held es) [] (stretch 0 0 zeros) (grown es c.requires.room).held (many es) in
    c.set_record.ensures.after (held es) [] (stretch c.args.run 1 zeros) with_runs (many es)
