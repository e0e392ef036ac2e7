-- Why no book is opened. Assumes nothing.
use Rattle.std.specs.Prelude.{◌≡◌, Some, None, Option}
use Rattle.meaning.specs.declared.fault.BookFault.{BookFault}
use Rattle.book.specs.declared.opening.OpenFault.{OpenFault}
use Rattle.book.specs.declared.opening.OpenFault.TheVariants.{Refused, NoMemory}

-- the fault is the table's refusal, and want of memory where there is none
abbrev pub Refuses : OpenFault → Option BookFault → Type 0
Refuses (Refused f) o = o ≡ Some f
Refuses NoMemory o = o ≡ None

-- the fault is the table's refusal, and never want of memory
abbrev pub OnlyRefuses : OpenFault → Option BookFault → Type 0
OnlyRefuses (Refused f) o = o ≡ Some f
OnlyRefuses NoMemory o = ⊥
