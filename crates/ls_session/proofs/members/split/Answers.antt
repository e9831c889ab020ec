use Rattle.std.proofs.Common.{◌≡◌, ℕ, List, None, option_map, String, BTreeMap, Global, refl, sym, ap, ◌∙◌}
use Rattle.serde_json.specs.Find.{get, get_member}
use Rattle.serde_json.specs.View.{view, members_view}
use Rattle.serde_json.specs.declared.value.Value.{Value, Object}
use Rattle.serde_json.proofs.Views.{view-Object, view-lookup}
use Rattle.std.proofs.lemmas.Map.Text.{btree_map_updates_text}
use Rattle.ls_session.proofs.members.split.Goals as goal

-- a member of an object
whole : (v : Value) (m : BTreeMap (String Global) Value) → v ≡ Object m → (key : List ℕ) → get key (view v) ≡ get_member key (members_view m.entries)
whole v m is key = ap (λ (x : Value). get key (view x)) is ∙ ap (get key) (view-Object m)

pub returns-in-Object-clause-member : goal.returns-in-Object-clause-member
returns-in-Object-clause-member c =
    ap (option_map view) c.remove-member.ensures.value
    ∙ (view-lookup c.args.key.now c.in-Object.members.entries ∙ sym (whole c.args.value c.in-Object.members c.in-Object.is c.args.key.now))

pub returns-in-Object-clause-others : goal.returns-in-Object-clause-others
returns-in-Object-clause-others c = λ q other.
    let same = btree_map_updates_text c.args.key.now c.in-Object.members c.remove-member.new.self None c.remove-member.ensures.updates q in
    let kept = rw other at same in
    whole (Object c.remove-member.new.self) c.remove-member.new.self refl q
    ∙ (sym (view-lookup q c.remove-member.new.self.entries)
    ∙ (ap (option_map view) kept ∙ (view-lookup q c.in-Object.members.entries ∙ sym (whole c.args.value c.in-Object.members c.in-Object.is q))))
