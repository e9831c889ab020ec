-- A text has one list of the numbers of its tokens.
use Rattle.std.proofs.Common.{◌≡◌, ℕ, suc, ◌+◌, List, [], ◌∷◌, ◌++◌, length, map, Option, refl, sym, ap, ◌∙◌, arith}
use Rattle.std.specs.Prelude.{find, flat_map, slice_index_or}
use Rattle.std.specs.List.{filter_map, cons_option}
use Rattle.ls_text.specs.declared.position.Encoding.{Encoding}
use Rattle.abnf_token.specs.Classes.{Text}
use Rattle.abnf_token.specs.Tokens.{view}
use Rattle.abnf_token.specs.declared.token.Kind.{Kind}
use Rattle.abnf_token.specs.declared.token.Token.{Token}
use Rattle.abnf_token.proofs.Laws.{one_answer}
use Rattle.abnf_syntax.specs.Blocks.{line_texts}
use Rattle.abnf_syntax.specs.Items.{AreTokens}
use Rattle.abnf_names.specs.Rules.{Grammar}
use Rattle.abnf_names.proofs.OneGrammar.{one_grammar}
use Rattle.ls_answers.specs.SemanticTokens.{AreReported, AreSemanticTokens, origin, relative, stands_at, told, told_of}
use Rattle.ls_answers.specs.declared.semantic_tokens.SemanticToken.{SemanticToken}

abbrev View : Type 0
View = Kind × Text × ℕ × ℕ

module _ (encoding : Encoding) where
  -- what is reported of a token, by what it says
  abbrev told_view : Grammar → View → Option SemanticToken
  told_view g v = told_of encoding g v.2 (record { kind = v.0; start = v.3; end = v.3 + length v.1 }) (find (stands_at v.2 v.3) g.places)

  by_views : (g : Grammar) (ts : List Token) → filter_map (told_view g) (map view ts) ≡ filter_map (told encoding g) ts
  by_views g [] = refl
  by_views g (t ∷ ts) = ap (cons_option (told encoding g t)) (by_views g ts)

  lines_by_views : (g : Grammar) (tss : List (List Token)) → flat_map (filter_map (told_view g)) (map (map view) tss) ≡ flat_map (filter_map (told encoding g)) tss
  lines_by_views g [] = refl
  lines_by_views g (ts ∷ tss) = (λ i. by_views g ts i ++ lines_by_views g tss i)

  same_views : (ls : List Text) (at : ℕ) (tss uss : List (List Token)) → length tss ≡ length uss → AreTokens ls at tss → AreTokens ls at uss → map (map view) tss ≡ map (map view) uss
  same_views ls at [] [] e p q = refl
  same_views ls at [] (us ∷ uss) e p q = absurd (omega (arith, e))
  same_views ls at (ts ∷ tss) [] e p q = absurd (omega (arith, e))
  same_views ls at (ts ∷ tss) (us ∷ uss) e p q =
      (λ i. one_answer (slice_index_or ls at []) at 0 ts us p.0 q.0 i ∷ same_views ls (suc at) tss uss (omega (arith, e)) p.1 q.1 i)

  same_told : (g : Grammar) (ls : List Text) (tss uss : List (List Token)) → length tss ≡ length uss → AreTokens ls 0 tss → AreTokens ls 0 uss
      → flat_map (filter_map (told encoding g)) tss ≡ flat_map (filter_map (told encoding g)) uss
  same_told g ls tss uss e p q = sym (lines_by_views g tss) ∙ (ap (flat_map (filter_map (told_view g))) (same_views ls 0 tss uss e p q) ∙ lines_by_views g uss)

  -- there is one list of those that are reported
  pub one_reported : (text : List ℕ) (xs ys : List SemanticToken) → AreReported encoding text xs → AreReported encoding text ys → xs ≡ ys
  one_reported text xs ys p q =
      let same = one_grammar p.grammar q.grammar p.right q.right (p.of_text ∙ sym q.of_text) in
      p.given_are
      ∙ (ap (λ (g : Grammar). flat_map (filter_map (told encoding g)) p.tokens) same
      ∙ (same_told q.grammar (line_texts text) p.tokens q.tokens (p.all ∙ sym q.all) p.tokens_are q.tokens_are ∙ sym q.given_are))

  pub one_list_of_numbers : (text xs ys : List ℕ) → AreSemanticTokens encoding text xs → AreSemanticTokens encoding text ys → xs ≡ ys
  one_list_of_numbers text xs ys p q = p.numbers_are ∙ (ap (relative origin) (one_reported text p.tokens q.tokens p.reported q.reported) ∙ sym q.numbers_are)
