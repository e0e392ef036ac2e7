-- The law holds of what is found, and the reader's place stays in the text.
use Rattle.std.proofs.Common.{rules}
use Rattle.signs.proofs.Law.{found_stands, onward}
use Rattle.signs.proofs.reader.Reader.next.Goals as goal

pub returns-in_err-placed-clause-stands : goal.returns-in_err-placed-clause-stands
returns-in_err-placed-clause-stands c = found_stands c.args.self.now.within (search (rules, c.in_err-placed.ensures))

pub invariant_of-self : goal.invariant_of-self
invariant_of-self c = record { within = (onward (found_stands c.args.self.now.within c.in_ok-placed.ensures)).within }

pub returns-clause-stands : goal.returns-clause-stands
returns-clause-stands c = found_stands c.args.self.now.within c.in_ok-placed.ensures
