use Rattle.std.proofs.Common.{◌≡◌, ◌*◌, rules, length, Ok, sym, ap, ◌∙◌, subst, arith}
use Rattle.arrayvec.specs.ArrayVec.{with_items}
use Rattle.arrayvec.proofs.ArrayVecLemmas.{items-with_items}
use Rattle.fund.specs.BalanceBook.{balances_of}
use Rattle.fund.specs.Overlay.{overlaid_of}
use Rattle.settlement.specs.Views.{view}
use Rattle.statement.specs.Laws.{ClosedBy}
use Rattle.statement.specs.declared.fault.StatementFault.TheVariants.{Settlement}
use Rattle.statement.proofs.Answering.{placed_ok, refused_at}
use Rattle.statement.proofs.Openings.{open_standing, statement_of, ClosesAs, closes_as}
use Rattle.statement.proofs.Wholes.{told_ok, told_err}
use Rattle.statement.proofs.month.MonthInProgress.close.Goals as goal
use Rattle.statement.proofs.month.MonthInProgress.close.Goals.{After-close, After-of}

-- how long the line table is
long : (c : After-close) → length c.deref_mut.result.now ≡ 2 * length c.args.self.roster
long c =
    let v = ap length c.deref_mut.ensures.value in
    let e = ap length c.entries.ensures.value in
    omega (arith, v, e, c.entries.ensures.within, c.truncate.ensures.len)

-- what the settlement answers
closed : (c : After-close) → ClosesAs c.args.self.terms c.args.self.roster c.args.rows.now c.deref_mut.result.now c.close.new.lines (view (overlaid_of balances_of) c.close.new.self) c.close.result
closed c =
    let does = rw c.entries-2.ensures.value at c.close.ensures.does in
    closes_as c.args.self.terms c.args.self.roster c.args.rows.now c.deref_mut.result.now c.close.new.lines (view (overlaid_of balances_of) c.close.new.self) (view (overlaid_of balances_of) c.args.self.settlement) c.close.result c.args.self.opened
    (c.requires.fit, long c, c.requires.rows) does

-- what the statement tells of it
told : (c : After-of) → statement_of c.args.self.terms c.args.self.roster c.args.rows.now c.deref_mut.result.now c.close.new.lines (view (overlaid_of balances_of) c.close.new.self) c.in_ok-pools.pools
    ≡ record { terms = c.args.self.terms; lines = (with_items c.truncate.new.self c.close.new.lines).items; pools = c.in_ok-pools.pools; shown = c.of.result }
told c =
    let e = items-with_items c.truncate.new.self c.close.new.lines (c.close.auto.lines ∙ ap length c.deref_mut.ensures.value) in
    rw e (search rules)

pub returns-in_err-pools-clause-value : goal.returns-in_err-pools-clause-value
returns-in_err-pools-clause-value c =
    let does = closed (goal.at.returns-in_err-pools-clause-value c).After-close in
    refused_at _ c.close.result c.args.offset Settlement _ (sym c.at_offset.ensures ∙ c.in_err-pools.was) c.from_residual.ensures.1 (λ f is. told_err c.args.offset _ f (rw is at does))

pub invariant_of-result : goal.invariant_of-result
invariant_of-result c = record { stands = c.standing-standing.ensures ∙ open_standing c.args.self.terms _ c.args.self.opened }

pub returns-clause-value : goal.returns-clause-value
returns-clause-value c =
    let at = goal.at.returns-clause-value c in
    let q = placed_ok c.close.result c.args.offset _ (sym c.at_offset.ensures ∙ c.in_ok-pools.was) in
    let o = rw q at (closed at.After-close) in
    told_ok c.args.offset _ _ o.0 ∙ ap Ok (told at.After-of)

pub returns-clause-closed : goal.returns-clause-closed
returns-clause-closed c =
    let at = goal.at.returns-clause-closed c in
    let q = placed_ok c.close.result c.args.offset _ (sym c.at_offset.ensures ∙ c.in_ok-pools.was) in
    let o = rw q at (closed at.After-close) in
    subst ClosedBy (told at.After-of) o.1
