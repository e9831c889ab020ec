-- What the parser answers with Ok is derived.
use Rattle.std.proofs.Common.{◌≡◌, ℕ, suc, true, List, [], ◌∷◌, ◌++◌, inl, inr}
use Rattle.abnf_token.specs.declared.token.Kind.TheVariants as k
use Rattle.abnf_syntax.specs.declared.item.Item.{Item}
use Rattle.abnf_syntax.specs.declared.tree.Element.TheVariants as e
use Rattle.abnf_syntax.specs.declared.parser.Level.{Level}
use Rattle.abnf_syntax.specs.Kinds.{closes_it}
use Rattle.abnf_syntax.specs.Grammar.{kind_of, repetition, Alternation, IsAlternation}
use Rattle.abnf_syntax.specs.Grammar.IsElement.{group, choice}
use Rattle.abnf_syntax.specs.Machine.{bracketed}
use Rattle.abnf_syntax.proofs.Front.{After, Awaits}
use Rattle.abnf_syntax.proofs.Rows.{closes_cases}

-- an opening bracket where an element must come
pub opened : (room : ℕ) (start rest : List Item) (left : Item) (l : Level) → Awaits (suc room) start (left ∷ rest) l →
    (after : List Item) (right : Item) (a : Alternation) → IsAlternation room rest (right ∷ after) a → closes_it (kind_of left) (kind_of right) ≡ true → After (suc room) start after l.done (l.row ++ repetition l.repeat (bracketed left.token a) ∷ [])
unfolding Awaits
opened room start rest left l h after right a ha c =
    elim (closes_cases _ _ c) [
      | inl p ↦ let left_is : left.token.kind ≡ k.ParenL = p.0 in rw left_is (h after (e.Group a) (group p.0 ha p.1))
      | inr p ↦ let left_is : left.token.kind ≡ k.BracketL = p.0 in rw left_is (h after (e.Choice a) (choice p.0 ha p.1))
    ]
