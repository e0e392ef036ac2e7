-- What is written and what the signs left give is the whole.
use Rattle.std.proofs.Common.{◌≡◌, ℕ, ◌-◌, List, ◌++◌}
use Rattle.std.specs.Fmt.{HasWritten, IsPlainFormatter}
use Rattle.std.specs.List.{flat_map}
use Rattle.names.specs.Names.{names_of}
use Rattle.readings.specs.Written.{declared, atom_of, atoms_written}
use Rattle.readings.proofs.atoms.AtomsDisplay.fmt.Given as goal

abbrev pub invariant-loop : goal.invariant-loop
invariant-loop g l =
    let text = l.self.text.now in
    let ns = names_of text l.self.names in
    (l.reader.text.now ≡ text)
    × (IsPlainFormatter l.initial.f → (done : List ℕ) × HasWritten g.W.Write.write_str_gives l.initial.f done l.f × (done ++ flat_map (atom_of ns) (declared (l.end - l.counter) text l.reader.at) ≡ atoms_written text ns))
