use Rattle.std.proofs.Common.{◌∙◌, ap, sym, refl}
use Rattle.fund.specs.BalanceBook.{balance_book, balances_of}
use Rattle.fund.specs.Overlay.{over, overlaid_of}
use Rattle.settlement.specs.Opening.{started}
use Rattle.settlement.specs.Views.{view}
use Rattle.statement.specs.Settling.{pool_book}
use Rattle.statement.specs.declared.fault.StatementFault.TheVariants.{Settlement}
use Rattle.statement.proofs.Answering.{placed_ok, refused_at}
use Rattle.statement.proofs.Openings.{OpensAs, opens_as}
use Rattle.statement.proofs.Wholes.{empty_within, opened_taken, opened_refused}
use Rattle.statement.proofs.month.MonthInProgress.open.Goals as goal
use Rattle.statement.proofs.month.MonthInProgress.open.Goals.{After-open}

-- what the settlement answers
opened : (c : After-open) → OpensAs c.args.terms c.args.roster c.args.rows.now c.open.new.rows (view (overlaid_of balances_of) c.open.new.self) c.open.result
opened c =
    let start = c.start-settlement.ensures.is ∙ ap (started pool_book) (c.over-book.ensures.made ∙ ap (over balance_book) c.new.ensures) in
    let does = rw c.entries.ensures.value at c.open.ensures.does in
    opens_as c.args.terms c.args.roster c.args.rows.now c.open.new.rows (view (overlaid_of balances_of) c.open.new.self) (view (overlaid_of balances_of) c.start-settlement.result) c.open.result start c.requires does

pub returns-in_err-at_offset-clause-value : goal.returns-in_err-at_offset-clause-value
returns-in_err-at_offset-clause-value c =
    let does = opened (goal.at.returns-in_err-at_offset-clause-value c).After-open in
    refused_at _ c.open.result 0 Settlement _ (sym c.at_offset.ensures ∙ c.in_err-at_offset.was) c.from_residual.ensures.1 (λ f is. opened_refused c.args.terms c.args.roster f (rw is at does))

pub invariant_of-result : goal.invariant_of-result
invariant_of-result c =
    let q = placed_ok c.open.result 0 _ (sym c.at_offset.ensures ∙ c.in_ok-at_offset.was) in
    let o = rw q at (opened (goal.at.invariant_of-result c).After-open) in
    record { opened = o.1 }

pub returns : goal.returns
returns c =
    let q = placed_ok c.open.result 0 _ (sym c.at_offset.ensures ∙ c.in_ok-at_offset.was) in
    let o = rw q at (opened (goal.at.returns c).After-open) in
    record {
      value = opened_taken c.args.terms c.args.roster _ _ c.requires.1 o.0 o.2;
      same = refl;
      rows = ((c.requires.0, c.open.auto.rows ∙ c.requires.1), empty_within c.open.new.rows _ o.2);
    }
