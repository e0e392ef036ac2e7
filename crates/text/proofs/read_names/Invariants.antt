-- The names so far were read; the remaining text falls.
use Rattle.std.proofs.Common.{◌-◌, length}
use Rattle.rules.specs.Parts.{text_of, place_of}
use Rattle.text.proofs.Naming.{Onward}
use Rattle.text.proofs.read_names.Given as goal

abbrev pub invariant-loop-placed : goal.invariant-loop-placed
invariant-loop-placed l = Onward l.initial.parser l.parser

abbrev pub decreases-loop-placed : goal.decreases-loop-placed
decreases-loop-placed l = length (text_of l.parser) - place_of l.parser
