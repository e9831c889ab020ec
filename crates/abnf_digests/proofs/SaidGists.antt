-- The gists of what a block says, with their names numbered, are those of what it says where names have these numbers.
use Rattle.std.proofs.Common.{◌≡◌, ℕ, zero, suc, Bool, true, false, List, [], ◌∷◌, ◌++◌, map, Option, Some, None, Result, Ok, Err, refl, sym, ap, ◌∙◌}
use Rattle.std.specs.Prelude.{if◌then◌else◌, nat_le, flat_map}
use Rattle.std.proofs.lemmas.List.{map-append}
use Rattle.abnf_token.specs.declared.token.Token.{Token}
use Rattle.abnf_token.specs.Classes.{base_of}
use Rattle.abnf_syntax.specs.declared.fault.SyntaxFault.{SyntaxFault}
use Rattle.abnf_syntax.specs.declared.tree.Element.{out-Element}
use Rattle.abnf_syntax.specs.declared.tree.Element.TheOpen as e
use Rattle.abnf_syntax.specs.declared.tree.Repetition.{out-Repetition}
use Rattle.abnf_syntax.specs.declared.tree.Rule.{Rule}
use Rattle.abnf_syntax.specs.Grammar.{Concatenation, Alternation, max_nesting}
use Rattle.abnf_parts.specs.Part.{Part, series, seq, alt, rep, next}
use Rattle.abnf_parts.specs.Leaf.{number_part, numbers_from, span_of, repeated, repeat_limits, has}
use Rattle.abnf_parts.specs.Names.{Name}
use Rattle.abnf_parts.specs.Tree.{ElementLayer, parts, join, element_part, repetition_part, concatenation_part, tree_inside, alternatives}
use Rattle.abnf_names.specs.Said.{Block}
use Rattle.abnf_names.specs.Rules.{alternatives_said, said_alternatives}
use Rattle.abnf_lint.specs.Empty.{is_above}
use Rattle.abnf_digests.specs.Gists.{something, nothing, repeated_gist, gist, gists, relinked, all_relinked}
use Rattle.abnf_digests.specs.Digests.{digest_of, no_number, said_with}

-- ---- gists of rows

pub gists_map : (ps : List Part) → gists (parts ps) ≡ parts (map gist ps)
gists_map [] = refl
gists_map (p ∷ ps) = ap (λ qs. next (gist p) qs) (gists_map ps)

pub seq_gist : (ps : List Part) → gist (join seq ps) ≡ join seq (map gist ps)
seq_gist [] = refl
seq_gist (p ∷ []) = refl
seq_gist (p ∷ q ∷ ps) = ap seq (gists_map (p ∷ q ∷ ps))

pub alt_gist : (ps : List Part) → gist (join alt ps) ≡ join alt (map gist ps)
alt_gist [] = refl
alt_gist (p ∷ []) = refl
alt_gist (p ∷ q ∷ ps) = ap alt (gists_map (p ∷ q ∷ ps))

module _ (number : Name → Option ℕ) where
  relinked_map : (ps : List Part) → all_relinked number (parts ps) ≡ parts (map (relinked number) ps)
  relinked_map [] = refl
  relinked_map (p ∷ ps) = ap (λ qs. next (relinked number p) qs) (relinked_map ps)

  seq_relinked : (ps : List Part) → relinked number (join seq ps) ≡ join seq (map (relinked number) ps)
  seq_relinked [] = refl
  seq_relinked (p ∷ []) = refl
  seq_relinked (p ∷ q ∷ ps) = ap seq (relinked_map (p ∷ q ∷ ps))

  alt_relinked : (ps : List Part) → relinked number (join alt ps) ≡ join alt (map (relinked number) ps)
  alt_relinked [] = refl
  alt_relinked (p ∷ []) = refl
  alt_relinked (p ∷ q ∷ ps) = ap alt (relinked_map (p ∷ q ∷ ps))

  -- the gist of the first is that of the second, with its names numbered
  abbrev Agree : Part → Part → Type 0
  Agree p q = gist p ≡ relinked number (gist q)

  abbrev AllAgree : List Part → List Part → Type 0
  AllAgree ps qs = map gist ps ≡ map (relinked number) (map gist qs)

  seq_agrees : (ps qs : List Part) → AllAgree ps qs → Agree (join seq ps) (join seq qs)
  seq_agrees ps qs h = seq_gist ps ∙ (ap (join seq) h ∙ (sym (seq_relinked (map gist qs)) ∙ ap (relinked number) (sym (seq_gist qs))))

  alt_agrees : (ps qs : List Part) → AllAgree ps qs → Agree (join alt ps) (join alt qs)
  alt_agrees ps qs h = alt_gist ps ∙ (ap (join alt) h ∙ (sym (alt_relinked (map gist qs)) ∙ ap (relinked number) (sym (alt_gist qs))))

  range_agrees : (b : Bool) → (if b then something else nothing) ≡ relinked number (if b then something else nothing)
  range_agrees true = refl
  range_agrees false = refl

  span_agrees : (ns : List ℕ) → Agree (span_of ns) (span_of ns)
  span_agrees [] = refl
  span_agrees (a ∷ []) = refl
  span_agrees (a ∷ b ∷ ns) = range_agrees (nat_le a b)

  digits_agree : (range : Bool) (ns : List ℕ) → Agree (if range then span_of ns else series ns) (if range then span_of ns else series ns)
  digits_agree true ns = span_agrees ns
  digits_agree false ns = refl

  number_agrees : (text : List ℕ) → Agree (number_part text) (number_part text)
  number_agrees [] = refl
  number_agrees (a ∷ []) = refl
  number_agrees (a ∷ b ∷ digits) = digits_agree (has 0x2D digits) (numbers_from (base_of b) 0 digits)

  limits_agree : (b : Bool) (least : ℕ) (p q : Part) → p ≡ relinked number q → repeated_gist b least p ≡ relinked number (repeated_gist b least q)
  limits_agree true least p q h = ap (rep 1 (Some 0)) h
  limits_agree false zero p q h = ap (rep 0 None) h
  limits_agree false (suc n) p q h = ap (rep 1 None) h

  repeated_agrees : (o : Option Token) (p q : Part) → Agree p q → Agree (repeated o p) (repeated o q)
  repeated_agrees None p q h = h
  repeated_agrees (Some t) p q h =
      let b = repeat_limits t.text.now in
      limits_agree (is_above b.0 b.1) b.0 (gist p) (gist q) h

  module _ (inner other : Alternation → Part) (same : (a : Alternation) → Agree (inner a) (other a)) where
    element_agrees : (layer : ElementLayer) → Agree (element_part number inner layer) (element_part no_number other layer)
    element_agrees (e.Name t) = refl
    element_agrees (e.Quoted t) = refl
    element_agrees (e.Number t) = number_agrees t.text.now
    element_agrees (e.Prose t) = refl
    element_agrees (e.Group a) = same a
    element_agrees (e.Choice a) = ap (rep 0 None) (same a)

    repetitions_agree : (c : Concatenation) → AllAgree (map (repetition_part number inner) c) (map (repetition_part no_number other) c)
    repetitions_agree [] = refl
    repetitions_agree (r ∷ c) =
        (λ i. repeated_agrees (out-Repetition r).repeat (element_part number inner (out-Element (out-Repetition r).element)) (element_part no_number other (out-Element (out-Repetition r).element))
        (element_agrees (out-Element (out-Repetition r).element)) i ∷ repetitions_agree c i)

    concatenations_agree : (a : Alternation) → AllAgree (map (concatenation_part number inner) a) (map (concatenation_part no_number other) a)
    concatenations_agree [] = refl
    concatenations_agree (c ∷ a) =
        (λ i. seq_agrees (map (repetition_part number inner) c) (map (repetition_part no_number other) c) (repetitions_agree c) i ∷ concatenations_agree a i)

  inside_agrees : (room : ℕ) (a : Alternation) → Agree (tree_inside number room a) (tree_inside no_number room a)
  inside_agrees zero a = refl
  inside_agrees (suc room) a =
      alt_agrees (map (concatenation_part number (tree_inside number room)) a) (map (concatenation_part no_number (tree_inside no_number room)) a)
      (concatenations_agree (tree_inside number room) (tree_inside no_number room) (inside_agrees room) a)

  alternatives_agree : (body : Alternation) → AllAgree (alternatives number body) (alternatives no_number body)
  alternatives_agree body = concatenations_agree (tree_inside number max_nesting) (tree_inside no_number max_nesting) (inside_agrees max_nesting) body

  said_agrees : (said : Result Rule SyntaxFault) → AllAgree (alternatives_said number said) (alternatives_said no_number said)
  said_agrees (Ok rule) = alternatives_agree rule.body
  said_agrees (Err fault) = refl

  -- of all blocks, by their digests
  pub all_said : (blocks : List Block) → flat_map (said_with number) (map digest_of blocks) ≡ map gist (flat_map (said_alternatives number) blocks)
  all_said [] = refl
  all_said (block ∷ blocks) =
      (λ i. sym (said_agrees block.said) i ++ all_said blocks i)
      ∙ sym (map-append gist (said_alternatives number block) (flat_map (said_alternatives number) blocks))
