-- What the pass found, in order, is what is found in the text.
use Rattle.std.proofs.Common.{◌≡◌, ◌∙◌, Bool, List, [], map, ap, subst}
use Rattle.abnf_parts.specs.Part.{Part}
use Rattle.abnf_parts.specs.Names.{Name}
use Rattle.abnf_names.specs.declared.section.Section.{Section}
use Rattle.abnf_names.specs.Excerpts.{Excerpt, HasSections, excerpt}
use Rattle.abnf_names.specs.Rules.{Grammar, names_of}
use Rattle.abnf_lint.specs.declared.finding.Finding.{Finding}
use Rattle.abnf_lint.specs.Unproductive.{AreUnproductive}
use Rattle.abnf_lint.specs.own.Findings.{AreFindings, AreOrdered, findings_in}
use Rattle.abnf_lint.specs.own.Passes.{findings_behind}
use Rattle.abnf_lint.proofs.Behind.{behind_after}

pub whole : (g : Grammar) (sections : List Section) → HasSections g sections → (marks : List Bool) (given found : List Finding) → AreUnproductive g.rules marks →
    given ≡ findings_behind marks g.names [] [] (map excerpt sections) → AreOrdered given found → AreFindings g.text found
whole g sections h marks given found are is ordered =
    let all : given ≡ findings_in marks h.blocks = is
    ∙ (ap (λ (ns : List Name). findings_behind marks ns [] [] (map excerpt sections)) (ap (λ (x : Grammar). x.names) h.is)
    ∙ (ap (λ (os : List Excerpt). findings_behind marks (names_of h.blocks) [] [] os) h.excerpts
    ∙ behind_after marks (names_of h.blocks) [] h.blocks)) in
    record {
      blocks = h.blocks;
      of_text = h.of_text;
      marks = marks;
      are_marks = subst (λ (rs : List Part). AreUnproductive rs marks) (ap (λ (x : Grammar). x.rules) h.is) are;
      ordered = subst (λ (fs : List Finding). AreOrdered fs found) all ordered;
    }
