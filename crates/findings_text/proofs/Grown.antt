-- A text to which parts are appended one by one grows by all of them.
use Rattle.std.proofs.Common.{◌≡◌, ◌∙◌, ℕ, List, [], ◌∷◌, ◌++◌, ap, append_assoc}
use Rattle.std.specs.Prelude.{Option, codes}
use Rattle.ls_text.specs.declared.position.Position.{Position}
use Rattle.abnf_lint.specs.Messages.{severity_of}
use Rattle.draft_findings.specs.Reports.{Remarked}
use Rattle.abnf_names.specs.Places.{Named}
use Rattle.findings_text.specs.Print.{code_at, line_of_finding, message_at, place_text, severity_text}
use Rattle.abnf_least.specs.declared.shortest.Shortest.{Shortest}
use Rattle.findings_text.specs.Rules.{known_text, rule_line_at}
use Rattle.findings_text.specs.Unread.{lack_code, lack_line, lack_text}
use Rattle.origins.specs.declared.unread.Lack.{Lack}

-- what has grown by some, and then by more
more : (old some part was now : List ℕ) → was ≡ old ++ some → now ≡ was ++ part → now ≡ old ++ (some ++ part)
more old some part was now e p = p ∙ (ap (λ (l : List ℕ). l ++ part) e ∙ append_assoc old some part)

eight : (old a b c d e f g h s1 s2 s3 s4 s5 s6 s7 s8 : List ℕ)
    → s1 ≡ old ++ a → s2 ≡ s1 ++ b → s3 ≡ s2 ++ c → s4 ≡ s3 ++ d → s5 ≡ s4 ++ e → s6 ≡ s5 ++ f → s7 ≡ s6 ++ g → s8 ≡ s7 ++ h
    → s8 ≡ old ++ (a ++ b ++ c ++ d ++ e ++ f ++ g ++ h)
eight old a b c d e f g h s1 s2 s3 s4 s5 s6 s7 s8 e1 e2 e3 e4 e5 e6 e7 e8 =
    more old (a ++ b ++ c ++ d ++ e ++ f ++ g) h s7 s8
    (more old (a ++ b ++ c ++ d ++ e ++ f) g s6 s7
    (more old (a ++ b ++ c ++ d ++ e) f s5 s6
    (more old (a ++ b ++ c ++ d) e s4 s5
    (more old (a ++ b ++ c) d s3 s4
    (more old (a ++ b) c s2 s3
    (more old a b s1 s2 e1 e2) e3) e4) e5) e6) e7) e8

-- the line of a finding, appended part by part
pub line_grown : (known : List (List ℕ)) (file : List ℕ) (told : Remarked) (begin : Position) (original : Option ℕ) (hint : List ℕ)
    → (old p s m c : List ℕ) → p ≡ place_text begin → s ≡ severity_text (severity_of told.finding.code) → m ≡ message_at known original hint told → c ≡ code_at original told.finding
    → (s1 s2 s3 s4 s5 s6 s7 s8 : List ℕ)
    → s1 ≡ old ++ file → s2 ≡ s1 ++ p → s3 ≡ s2 ++ s → s4 ≡ s3 ++ codes ": " → s5 ≡ s4 ++ m → s6 ≡ s5 ++ codes " [" → s7 ≡ s6 ++ c → s8 ≡ s7 ++ (codes "]" ++ 10 ∷ [])
    → s8 ≡ old ++ line_of_finding known file begin original hint told
line_grown known file told begin original hint old p s m c is_p is_s is_m is_c s1 s2 s3 s4 s5 s6 s7 s8 e1 e2 e3 e4 e5 e6 e7 e8 =
    eight old file p s (codes ": ") m (codes " [") c (codes "]" ++ 10 ∷ []) s1 s2 s3 s4 s5 s6 s7 s8 e1 e2 e3 e4 e5 e6 e7 e8
    ∙ (λ i. old ++ (file ++ is_p i ++ is_s i ++ codes ": " ++ is_m i ++ codes " [" ++ is_c i ++ (codes "]" ++ 10 ∷ [])))

six : (old a b c d e f s1 s2 s3 s4 s5 s6 : List ℕ) → s1 ≡ old ++ a → s2 ≡ s1 ++ b → s3 ≡ s2 ++ c → s4 ≡ s3 ++ d → s5 ≡ s4 ++ e → s6 ≡ s5 ++ f → s6 ≡ old ++ (a ++ b ++ c ++ d ++ e ++ f)
six old a b c d e f s1 s2 s3 s4 s5 s6 e1 e2 e3 e4 e5 e6 =
    more old (a ++ b ++ c ++ d ++ e) f s5 s6
    (more old (a ++ b ++ c ++ d) e s4 s5
    (more old (a ++ b ++ c) d s3 s4
    (more old (a ++ b) c s2 s3
    (more old a b s1 s2 e1 e2) e3) e4) e5) e6

-- the line of a rule, appended part by part
pub rule_line_grown : (file : List ℕ) (head : Named) (shown : Shortest) (begin : Position)
    → (old p k : List ℕ) → p ≡ place_text begin → k ≡ known_text shown
    → (s1 s2 s3 s4 s5 s6 : List ℕ)
    → s1 ≡ old ++ file → s2 ≡ s1 ++ p → s3 ≡ s2 ++ head.text → s4 ≡ s3 ++ codes ": " → s5 ≡ s4 ++ k → s6 ≡ s5 ++ 10 ∷ []
    → s6 ≡ old ++ rule_line_at file begin head shown
rule_line_grown file head shown begin old p k is_p is_k s1 s2 s3 s4 s5 s6 e1 e2 e3 e4 e5 e6 =
    six old file p head.text (codes ": ") k (10 ∷ []) s1 s2 s3 s4 s5 s6 e1 e2 e3 e4 e5 e6
    ∙ (λ i. old ++ (file ++ is_p i ++ head.text ++ codes ": " ++ is_k i ++ 10 ∷ []))

-- the line of what can't be read, appended part by part
pub lack_line_grown : (file : List ℕ) (begin : Position) (lack : Lack)
    → (old p w c : List ℕ) → p ≡ place_text begin → w ≡ lack_text lack → c ≡ lack_code lack
    → (s1 s2 s3 s4 s5 s6 s7 : List ℕ)
    → s1 ≡ old ++ file → s2 ≡ s1 ++ p → s3 ≡ s2 ++ codes "warning: " → s4 ≡ s3 ++ w → s5 ≡ s4 ++ codes " [" → s6 ≡ s5 ++ c → s7 ≡ s6 ++ (codes "]" ++ 10 ∷ [])
    → s7 ≡ old ++ lack_line file begin lack
lack_line_grown file begin lack old p w c is_p is_w is_c s1 s2 s3 s4 s5 s6 s7 e1 e2 e3 e4 e5 e6 e7 =
    more old (file ++ p ++ codes "warning: " ++ w ++ codes " [" ++ c) (codes "]" ++ 10 ∷ []) s6 s7
    (six old file p (codes "warning: ") w (codes " [") c s1 s2 s3 s4 s5 s6 e1 e2 e3 e4 e5 e6) e7
    ∙ (λ i. old ++ (file ++ is_p i ++ codes "warning: " ++ is_w i ++ codes " [" ++ is_c i ++ (codes "]" ++ 10 ∷ [])))
