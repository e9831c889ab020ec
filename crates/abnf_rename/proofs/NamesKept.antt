-- What names generate after a rename.
use Rattle.std.proofs.Common.{sym, subst, ◌∙◌}
use Rattle.abnf_token.specs.Classes.{Text}
use Rattle.abnf_syntax.specs.Blocks.{line_texts}
use Rattle.abnf_parts.specs.Names.{Name}
use Rattle.abnf_parts.specs.Generates.{RuleGen}
use Rattle.abnf_parts.specs.Reach.{ReachesOpaque}
use Rattle.abnf_names.specs.Rules.{Grammar, IsGrammar}
use Rattle.abnf_rename.specs.Lines.{AreRenamedLines}
use Rattle.abnf_rename.specs.Rules.{IsGranted, AreSameRules, KeepsNames}
use Rattle.abnf_rename.proofs.TreeLaws.{meaning_kept}
use Rattle.abnf_rename.proofs.GrammarKept.{grammar_kept}

names_kept : (old : Name) (new : Text) (g h : Grammar) → AreSameRules old new g h → KeepsNames old new g h
names_kept old new g h same =
    let kept = meaning_kept same.rule new g.rules in
    record {
      generates = λ name s f. (
        λ x. record {
          rule = x.rule;
          is_rule = same.stands name f ∙ x.is_rule;
          references = x.references;
          generates = subst (λ rules. RuleGen rules x.references x.rule s) (sym same.rules) ((kept.rule_generates x.references x.rule s).0 x.generates);
        },
        λ x. record {
          rule = x.rule;
          is_rule = sym (same.stands name f) ∙ x.is_rule;
          references = x.references;
          generates = (kept.rule_generates x.references x.rule s).1 (subst (λ rules. RuleGen rules x.references x.rule s) same.rules x.generates);
        },
      );
      reaches = λ name f. (
        λ x. record {
          rule = x.rule;
          is_rule = same.stands name f ∙ x.is_rule;
          reaches = subst (λ rules. ReachesOpaque rules x.rule) (sym same.rules) ((kept.reaches x.rule).0 x.reaches);
        },
        λ x. record {
          rule = x.rule;
          is_rule = sym (same.stands name f) ∙ x.is_rule;
          reaches = (kept.reaches x.rule).1 (subst (λ rules. ReachesOpaque rules x.rule) same.rules x.reaches);
        },
      );
    }

pub both_kept : (old : Name) (new : Text) (g h : Grammar) → IsGrammar g → IsGrammar h → IsGranted old new g → AreRenamedLines old new (line_texts g.text) (line_texts h.text) → AreSameRules old new g h × KeepsNames old new g h
both_kept old new g h p q granted lines =
    let same = grammar_kept old new g h p q granted lines in
    (same, names_kept old new g h same)
