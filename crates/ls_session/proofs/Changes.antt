-- The edits of a list, one after another.
use Rattle.std.proofs.Common.{◌≡◌, List, [], ◌∷◌, ◌++◌, length, Option, Some, None, option_map, option_and_then, refl, sym, ap, ◌∙◌, append_assoc, append-nil, arith}
use Rattle.serde_json.specs.View.{view, items_view}
use Rattle.serde_json.specs.declared.value.Value.{Value}
use Rattle.ls_text.specs.declared.edit.Edit.{Edit}
use Rattle.ls_session.specs.Params.{edit_of, edits_of}

-- the edits of all are those found, and then those of the rest
abbrev pub Found : List Value → List Value → List Edit → Type 0
Found vs rest found = edits_of (items_view vs) ≡ option_map (λ es. found ++ es) (edits_of (items_view rest))

pub Found_none : (vs rest : List Value) (v : Value) (found : List Edit) → Found vs (v ∷ rest) found → edit_of (view v) ≡ None → edits_of (items_view vs) ≡ None
Found_none vs rest v found so_far none = so_far ∙ rw none refl

grown : (found : List Edit) (e : Edit) (rest : Option (List Edit)) → option_map (λ es. found ++ es) (option_and_then (λ es. Some (e ∷ es)) rest) ≡ option_map (λ es. (found ++ e ∷ []) ++ es) rest
grown found e None = refl
grown found e (Some es) = ap Some (sym (append_assoc found (e ∷ []) es))

pub Found_some : (vs rest : List Value) (v : Value) (found : List Edit) (e : Edit) → Found vs (v ∷ rest) found → edit_of (view v) ≡ Some e → Found vs rest (found ++ e ∷ [])
Found_some vs rest v found e so_far some = so_far ∙ rw some (grown found e (edits_of (items_view rest)))

pub Found_end : (vs rest : List Value) (found : List Edit) → length rest ≡ 0 → Found vs rest found → edits_of (items_view vs) ≡ Some found
Found_end vs [] found none so_far = so_far ∙ rw append-nil refl
Found_end vs (v ∷ rest) found none so_far = absurd (omega arith)

same : (o : Option (List Edit)) → o ≡ option_map (λ es. [] ++ es) o
same None = refl
same (Some es) = refl

pub Found_start : (vs : List Value) → Found vs vs []
Found_start vs = same (edits_of (items_view vs))
