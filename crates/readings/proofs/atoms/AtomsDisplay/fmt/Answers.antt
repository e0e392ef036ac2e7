-- A name is written at its sign; behind the semicolon, or where no sign is, nothing is left.
use Rattle.std.proofs.Common.{◌≡◌, ℕ, suc, ◌-◌, ◌+◌, List, [], ◌++◌, length, sym, ap, ◌∙◌, append_assoc, append-nil, arith, rules}
use Rattle.std.proofs.Output.{has_written_append, has_written_of_eq}
use Rattle.std.specs.List.{flat_map}
use Rattle.std.proofs.lemmas.Grind.{flat_map-append}
use Rattle.signs.specs.Signs.{kind_of}
use Rattle.names.specs.Names.{names_of}
use Rattle.readings.specs.Written.{named, declared, atom_of, atoms_written}
use Rattle.readings.proofs.Signs.{at_fault, at_end, at_sign, end_is_mark, no_name}
use Rattle.readings.proofs.atoms.AtomsDisplay.fmt.Goals as goal
use Rattle.readings.proofs.atoms.AtomsDisplay.fmt.Goals.{in-Name+in_ok-write, in_default-sign}

-- all is written where no sign with a name is left
whole : (ns : List (List ℕ)) (done text : List ℕ) (left : List (List ℕ)) → left ≡ [] → done ++ flat_map (atom_of ns) left ≡ atoms_written text ns → done ≡ atoms_written text ns
whole ns done text left none is = sym (append-nil done) ∙ ap (λ l. done ++ flat_map (atom_of ns) l) (sym none) ∙ is

-- what one sign adds to what is written
added : (ns : List (List ℕ)) (done text : List ℕ) (left named others : List (List ℕ)) → left ≡ named ++ others → done ++ flat_map (atom_of ns) left ≡ atoms_written text ns → (done ++ flat_map (atom_of ns) named) ++ flat_map (atom_of ns) others ≡ atoms_written text ns
added ns done text left named others split is =
    append_assoc done (flat_map (atom_of ns) named) (flat_map (atom_of ns) others)
    ∙ ap (λ l. done ++ l) (sym (flat_map-append (atom_of ns) named others)) ∙ ap (λ l. done ++ flat_map (atom_of ns) l) (sym split) ∙ is

pub loop-preserved : goal.loop-preserved
loop-preserved g c =
    let text = c.args.self.now.text.now in
    let ns = names_of text c.args.self.now.names in
    let same = c.loop.invariant.0 in
    let m = length text - c.loop.counter in
    let n = length text - (c.loop.counter + 1) in
    let more : m ≡ suc n = omega arith in
    let k = kind_of c.in-Ok.placed.sign in
    let split = at_sign text m n c.loop.reader.at more k c.in-Ok.placed.from c.in-Ok.placed.to (rw same at c.in-Ok.ensures.value) (c.if-is_mark.ensures ∙ end_is_mark _) ∙ ap (λ e. named k ++ declared n text e) (sym c.in-Ok.ensures.place) in (
      c.next.ensures.text ∙ same,
      λ plain.
          let so_far = c.loop.invariant.1 plain in
          let is = added ns so_far.0 text (declared m text c.loop.reader.at) (named k) (declared n text c.next.new.self.at) split so_far.2 in
          elim c.match-placed.branch [
            | in-Name+in_ok-write w ↦
                let one : flat_map (atom_of ns) (named k) ≡ atom_of ns w.in-Name.name.now = ap (λ s. flat_map (atom_of ns) (named (kind_of s))) w.in-Name.is ∙ append-nil (atom_of ns w.in-Name.name.now) in
                (so_far.0 ++ flat_map (atom_of ns) (named k), rw (w.f-is, one, ← w.find-number.ensures) (has_written_append _ _ _ _ _ _ so_far.1 (search rules)), is)
            | in_default-sign w ↦
                let none : flat_map (atom_of ns) (named k) ≡ [] = ap (flat_map (atom_of ns)) (no_name c.in-Ok.placed.sign w.in_default-sign.not-Name) in
                (so_far.0 ++ flat_map (atom_of ns) (named k), rw (w.f-is, none, append-nil) so_far.1, is)
          ],
    )

pub returns-in_default-clause-writes : goal.returns-in_default-clause-writes
returns-in_default-clause-writes g c = λ plain _.
    let text = c.args.self.now.text.now in
    let ns = names_of text c.args.self.now.names in
    let so_far = c.loop.invariant.1 plain in
    let more : length text - c.loop.counter ≡ suc (length text - (c.loop.counter + 1)) = omega arith in
    let none = at_fault text _ _ c.loop.reader.at more c.in_default.field-0 (rw c.loop.invariant.0 at c.in_default.ensures.value) in
    has_written_of_eq _ _ _ _ _ (whole ns so_far.0 text _ none so_far.2) so_far.1

pub returns-then-is_mark-clause-writes : goal.returns-then-is_mark-clause-writes
returns-then-is_mark-clause-writes g c = λ plain _.
    let text = c.args.self.now.text.now in
    let ns = names_of text c.args.self.now.names in
    let so_far = c.loop.invariant.1 plain in
    let more : length text - c.loop.counter ≡ suc (length text - (c.loop.counter + 1)) = omega arith in
    let none = at_end text _ _ c.loop.reader.at more (kind_of c.in-Ok.placed.sign) c.in-Ok.placed.from c.in-Ok.placed.to (rw c.loop.invariant.0 at c.in-Ok.ensures.value) (c.if-is_mark.ensures ∙ end_is_mark _) in
    has_written_of_eq _ _ _ _ _ (whole ns so_far.0 text _ none so_far.2) so_far.1
