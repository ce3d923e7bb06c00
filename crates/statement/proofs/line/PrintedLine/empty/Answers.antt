use Rattle.std.proofs.Common.{arith}
use Rattle.statement.proofs.Copies.{all_same}
use Rattle.statement.proofs.line.PrintedLine.empty.Goals as goal

pub invariant_of-result : goal.invariant_of-result
invariant_of-result c = (omega arith, λ k h. all_same 0 96 k)
