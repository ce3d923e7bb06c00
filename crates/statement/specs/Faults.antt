-- What a refusal prints of each fault: its number, the letter of its layer, and the byte offset.
use Rattle.std.specs.Prelude.{ℕ}
use Rattle.settlement.specs.Faults as settlement
use Rattle.statement.specs.declared.fault.Located.{Located}
use Rattle.statement.specs.declared.fault.ReaderFault.{ReaderFault}
use Rattle.statement.specs.declared.fault.ReaderFault.TheVariants.{EndsInside, UnknownKind, Misplaced}
use Rattle.statement.specs.declared.fault.StatementFault.{StatementFault}
use Rattle.statement.specs.declared.fault.StatementFault.TheVariants.{Reader, Settlement}
use Rattle.fund.specs.declared.label.Label.{Label}

-- a file that is empty or ends inside a record; a kind that is none; a record out of its place, or misnumbered
abbrev pub reader_number : ReaderFault → ℕ
reader_number EndsInside = 40
reader_number UnknownKind = 41
reader_number Misplaced = 43

-- the reader's layer has the letter R; a fault of the settlement, or of its book, keeps its own number and letter
abbrev pub label : Located StatementFault → Label ℕ
label l = elim l.fault [
  | Reader f ↦ record { number = reader_number f; layer = 82; place = l.offset }
  | Settlement f ↦ record { number = (settlement.label f).number; layer = (settlement.label f).layer; place = l.offset }
]
