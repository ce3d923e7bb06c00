-- What is printed for a file.
use Rattle.std.proofs.Common.{◌≡◌, ℕ, List, Ok, Err, refl, sym, ap}
use Rattle.std.specs.Result.{IsOk}
use Rattle.statement.specs.Files.{records_of, month_part}
use Rattle.statement.specs.Printing.{printed, is_taken, output, is_settled}
use Rattle.statement.specs.Refusals.{RefusedBy}
use Rattle.statement.specs.Settling.{MonthStatement, settled, settled_records}
use Rattle.statement.specs.declared.fault.Located.{Located}
use Rattle.statement.specs.declared.fault.StatementFault.{StatementFault}
use Rattle.statement.specs.declared.no_statement.NoStatement.TheVariants.{Refused}
use Rattle.statement.proofs.Accounted.{statements_keep_the_law}
use Rattle.statement.proofs.Answering.{parts}
use Rattle.statement.proofs.Lawful.{refused_in_one_line, same_output, same_settled}
use Rattle.statement.proofs.Reordered.{days_in_any_order}

-- what holds of every file
pub ruleset laws = (statements_keep_the_law, refused_in_one_line, same_output, same_settled, days_in_any_order)

-- a file that comes to a fault is refused by it
pub refused_by : (bs : List ℕ) (f : Located StatementFault) → settled bs ≡ Err f → RefusedBy bs (Refused f)
unfolding output is_settled
refused_by bs f h = (ap is_taken h, h, ap printed (sym h))

-- a file that is settled has a month record: a law for callers, which no proof here needs
pub settled_begun : (bs : List ℕ) (s : MonthStatement) → settled bs ≡ Ok s → IsOk (month_part (records_of bs))
unfolding settled settled_records
settled_begun bs s h = rw ((parts (month_part (records_of bs)) _ s h).1.0) refl
