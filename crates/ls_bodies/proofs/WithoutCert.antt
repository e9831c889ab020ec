-- What is said of an answer doesn't depend on its certificate.
use Rattle.std.proofs.Common.{◌≡◌, ℕ, ℤ, Bool, List, Some, None, refl, sym, ap, ◌∙◌}
use Rattle.ls_rpc.specs.declared.message.Id.{Id}
use Rattle.ls_answers.specs.Answers.{without_cert}
use Rattle.ls_answers.specs.declared.answer.Answer.{Answer}
use Rattle.ls_answers.specs.declared.answer.Answer.TheVariants.{Hover, Places, Symbols, Edits, Refused, Insert, Numbers, Findings, Draft}
use Rattle.ls_bodies.specs.Bodies.{answered_json, published_json, findings_body, reply_body}

reply_without : (id : Id) (uri : List ℕ) (label : ℤ) (links : Bool) (a : Answer) → reply_body id uri label links (without_cert a) ≡ reply_body id uri label links a
unfolding reply_body answered_json
reply_without id uri label links (Hover None) = refl
reply_without id uri label links (Hover (Some hover)) = refl
reply_without id uri label links (Places ranges) = refl
reply_without id uri label links (Symbols symbols) = refl
reply_without id uri label links (Edits ranges new) = refl
reply_without id uri label links (Refused fault) = refl
reply_without id uri label links (Insert None) = refl
reply_without id uri label links (Insert (Some insertion)) = refl
reply_without id uri label links (Numbers numbers) = refl
reply_without id uri label links (Findings diagnostics) = refl
reply_without id uri label links (Draft given) = refl

findings_without : (uri : List ℕ) (label : ℤ) (a : Answer) → findings_body uri label (without_cert a) ≡ findings_body uri label a
unfolding findings_body published_json
findings_without uri label (Hover None) = refl
findings_without uri label (Hover (Some hover)) = refl
findings_without uri label (Places ranges) = refl
findings_without uri label (Symbols symbols) = refl
findings_without uri label (Edits ranges new) = refl
findings_without uri label (Refused fault) = refl
findings_without uri label (Insert None) = refl
findings_without uri label (Insert (Some insertion)) = refl
findings_without uri label (Numbers numbers) = refl
findings_without uri label (Findings diagnostics) = refl
findings_without uri label (Draft given) = refl

-- Answers that are the same but for a certificate have the same body.
pub same_reply : (id : Id) (uri : List ℕ) (label : ℤ) (links : Bool) (a b : Answer) → without_cert a ≡ without_cert b → reply_body id uri label links a ≡ reply_body id uri label links b
same_reply id uri label links a b e = sym (reply_without id uri label links a) ∙ (ap (reply_body id uri label links) e ∙ reply_without id uri label links b)

pub same_findings : (uri : List ℕ) (label : ℤ) (a b : Answer) → without_cert a ≡ without_cert b → findings_body uri label a ≡ findings_body uri label b
same_findings uri label a b e = sym (findings_without uri label a) ∙ (ap (findings_body uri label) e ∙ findings_without uri label b)
