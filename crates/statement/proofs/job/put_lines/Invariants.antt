use Rattle.std.proofs.Common.{◌≡◌, ◌++◌, vec_items}
use Rattle.statement.specs.Printing.{rows_to}
use Rattle.statement.proofs.job.put_lines.Given as goal

abbrev pub invariant-loop-place : goal.invariant-loop-place
invariant-loop-place l = vec_items l.out ≡ vec_items l.initial.out ++ rows_to l.lines l.place
