-- No body has a number with a fraction.
use Rattle.std.proofs.Common.{◌≡◌, ℕ, ℤ, pos, negsuc, List, ◌∷◌, [], Bool, true, false, Some, None, refl}
use Rattle.serde_json.specs.Data.{number}
use Rattle.serde_json.specs.Find.{of_integer}
use Rattle.serde_json.specs.Written.{has_float}
use Rattle.ls_rpc.specs.Reply.{result_json}
use Rattle.ls_rpc.specs.declared.message.Id.{Id}
use Rattle.ls_rpc.specs.declared.message.Id.TheVariants.{Number, Text}
use Rattle.ls_answers.specs.declared.answer.Answer.{Answer}
use Rattle.ls_answers.specs.declared.answer.Answer.TheVariants as answer
use Rattle.ls_answers.specs.declared.answer.DraftAnswer.TheVariants as draft_answer
use Rattle.ls_text.specs.declared.position.Range.{Range}
use Rattle.ls_bodies.specs.Bodies.{answer_json, answered_json, diagnostic_json, draft_diagnostic_json, found_json, location_json, published_json, symbol_json}
use Rattle.draft_grammars.specs.Places.{empty_range}
use Rattle.ls_bodies.specs.Edits.{edit_json, edits_json, workspace_edit_json}
use Rattle.ls_bodies.specs.Tokens.{count_json}
use Rattle.ls_bodies.proofs.Arrays.{has_no_float}

of_integer_whole : (z : ℤ) → has_float (number (of_integer z)) ≡ false
of_integer_whole (pos n) = refl
of_integer_whole (negsuc n) = refl

edits_whole : (uri : List ℕ) (label : ℤ) (links : Bool) (new : List ℕ) (ranges : List Range) → has_float (workspace_edit_json uri label links (edits_json new ranges)) ≡ false
edits_whole uri label true new ranges = rw (has_no_float (edit_json new) (λ range. refl) ranges, of_integer_whole label) refl
edits_whole uri label false new ranges = rw (has_no_float (edit_json new) (λ range. refl) ranges) refl

answer_whole : (uri : List ℕ) (label : ℤ) (links : Bool) (a : Answer) → has_float (answer_json uri label links a) ≡ false
answer_whole uri label links (answer.Hover None) = refl
answer_whole uri label links (answer.Hover (Some hover)) = refl
answer_whole uri label links (answer.Places ranges) = has_no_float (location_json uri) (λ range. refl) ranges
answer_whole uri label links (answer.Symbols symbols) = has_no_float symbol_json (λ symbol. refl) symbols
answer_whole uri label links (answer.Edits ranges new) = edits_whole uri label links new ranges
answer_whole uri label links (answer.Refused fault) = refl
answer_whole uri label links (answer.Insert None) = refl
answer_whole uri label links (answer.Insert (Some insertion)) = rw (edits_whole uri label links insertion.text (empty_range insertion.position ∷ [])) refl
answer_whole uri label links (answer.Numbers numbers) = rw (has_no_float count_json (λ n. refl) numbers) refl
answer_whole uri label links (answer.Findings diagnostics) = has_no_float diagnostic_json (λ diagnostic. refl) diagnostics
answer_whole uri label links (answer.Draft (draft_answer.Refused fault)) = refl
answer_whole uri label links (answer.Draft (draft_answer.Findings diagnostics)) = has_no_float draft_diagnostic_json (λ diagnostic. refl) diagnostics

found_whole : (a : Answer) → has_float (found_json a) ≡ false
found_whole (answer.Hover hover) = refl
found_whole (answer.Places ranges) = refl
found_whole (answer.Symbols symbols) = refl
found_whole (answer.Edits ranges new) = refl
found_whole (answer.Refused fault) = refl
found_whole (answer.Insert insertion) = refl
found_whole (answer.Numbers numbers) = refl
found_whole (answer.Findings diagnostics) = has_no_float diagnostic_json (λ diagnostic. refl) diagnostics
found_whole (answer.Draft (draft_answer.Refused fault)) = refl
found_whole (answer.Draft (draft_answer.Findings diagnostics)) = has_no_float draft_diagnostic_json (λ diagnostic. refl) diagnostics

reply_whole : (id : Id) (uri : List ℕ) (label : ℤ) (links : Bool) (a : Answer) → has_float (result_json id (answer_json uri label links a)) ≡ false
reply_whole (Number n) uri label links a = rw (of_integer_whole n, answer_whole uri label links a) refl
reply_whole (Text s) uri label links a = rw (answer_whole uri label links a) refl

pub answered_whole : (id : Id) (uri : List ℕ) (label : ℤ) (links : Bool) (a : Answer) → has_float (answered_json id uri label links a) ≡ false
unfolding answered_json
answered_whole id uri label links a = reply_whole id uri label links a

pub published_whole : (uri : List ℕ) (label : ℤ) (a : Answer) → has_float (published_json uri label a) ≡ false
unfolding published_json
published_whole uri label a = rw (found_whole a, of_integer_whole label) refl
