-- What two rules of the code mean together.
use Rattle.assessment.specs.Rules.{Rule}
use Rattle.assessment.specs.Days.{Rules, both}
use Rattle.assessment.specs.declared.rule_pair.RulePair.{RulePair}

-- the meanings of a pair's two rules, by what each one's kind means
abbrev pub rules_of : {G F : Type 0} → (G → Rule) → (F → Rule) → RulePair G F → Rules
rules_of generic flexible p = both (generic p.generic) (flexible p.flexible)
