-- A journal and a list that are compared from their ends.
use Rattle.std.proofs.Common.{◌≡◌, ◌++◌, ◌∷◌, ◌∙◌, [], List, Option, Some, None, Bool, true, false, append-nil, refl, sym, ap, subst}
use Rattle.std.specs.Prelude.{◌↔◌, ◌&&◌, IsTrue, option_to_list}
use Rattle.std.specs.List.{cons_option}
use Rattle.std.proofs.lemmas.List.{same_from_push}
use Rattle.std.proofs.lemmas.List.Elements.{filter_map-append}
use Rattle.ls_machine.specs.Client.{client_event, client_events}
use Rattle.ls_machine.specs.declared.event.Event.{Event}

one_is : (o : Option Event) → cons_option o [] ≡ option_to_list o
one_is None = refl
one_is (Some e) = refl

-- the client's events of a journal, by those before its last event and that one
split : (js ks : List Event) (e : Event) (o : Option Event) → js ≡ ks ++ e ∷ [] → client_event e ≡ o → client_events js ≡ client_events ks ++ option_to_list o
split js ks e o is found =
    ap (λ (es : List Event). client_events es) is
    ∙ (filter_map-append client_event ks (e ∷ []) ∙ ap (λ (es : List Event). client_events ks ++ es) (one_is (client_event e) ∙ ap (λ (p : Option Event). option_to_list p) found))

push_some : (es : List Event) (e : Event) → es ++ e ∷ [] ≡ [] → ⊥
push_some [] e h = cc
push_some (x ∷ es) e h = cc

not_false : (P : Type 0) → IsTrue false × P → ⊥
not_false P q = absurd (cc (q.0))

-- an event that is none of the client's goes alone
pub other_goes : (js ks list : List Event) (e : Event) → js ≡ ks ++ e ∷ [] → client_event e ≡ None → (client_events js ≡ list) ↔ (IsTrue true × (client_events ks ≡ list))
other_goes js ks list e is none =
    let parts : client_events js ≡ client_events ks = split js ks e None is none ∙ append-nil (client_events ks) in
    ((λ q. (refl, sym parts ∙ q)), (λ q. parts ∙ q.1))

-- a client's goes with the list's last entry
pub entry_goes : (js ks list rest : List Event) (e f l : Event) (same : Bool) → js ≡ ks ++ e ∷ [] → client_event e ≡ Some f → list ≡ rest ++ l ∷ [] → IsTrue same ↔ (f ≡ l)
    → (client_events js ≡ list) ↔ (IsTrue same × (client_events ks ≡ rest))
entry_goes js ks list rest e f l same is found ends are =
    let parts : client_events js ≡ client_events ks ++ f ∷ [] = split js ks e (Some f) is found in
    let back : (client_events ks ≡ rest) → f ≡ l → client_events js ≡ list = λ q p. parts ∙ ((λ i. q i ++ p i ∷ []) ∙ sym ends) in (
      (λ q. let both = same_from_push (client_events ks) rest f l (sym parts ∙ (q ∙ ends)) in (are.1 both.1, both.0)),
      (λ q. back q.1 (are.0 q.0)),
    )

-- the list has no entry for it
pub entry_missing : (js ks list rest : List Event) (e f : Event) → js ≡ ks ++ e ∷ [] → client_event e ≡ Some f → list ≡ [] → (client_events js ≡ list) ↔ (IsTrue false × (client_events ks ≡ rest))
entry_missing js ks list rest e f is found none =
    let parts : client_events js ≡ client_events ks ++ f ∷ [] = split js ks e (Some f) is found in
    ((λ q. absurd (push_some (client_events ks) f (sym parts ∙ (q ∙ none)))), (λ q. absurd (not_false (client_events ks ≡ rest) q)))

-- what was compared before and what is compared now are the same, where both are
pub both_same : (P Q R : Type 0) (agree last : Bool) → P ↔ (IsTrue agree × Q) → Q ↔ (IsTrue last × R) → P ↔ (IsTrue (last && agree) × R)
both_same P Q R true true old new = ((λ p. (refl, (new.0 (old.0 p).1).1)), (λ r. old.1 (refl, new.1 (refl, r.1))))
both_same P Q R true false old new = ((λ p. new.0 (old.0 p).1), (λ r. absurd (not_false R r)))
both_same P Q R false true old new = ((λ p. absurd (not_false Q (old.0 p))), (λ r. absurd (not_false R r)))
both_same P Q R false false old new = ((λ p. absurd (not_false Q (old.0 p))), (λ r. absurd (not_false R r)))

pub still_same : (P Q R : Type 0) (before last now : Bool) → P ↔ (IsTrue before × Q) → Q ↔ (IsTrue last × R) → now ≡ (last && before) → P ↔ (IsTrue now × R)
still_same P Q R before last now old new is = subst (λ (b : Bool). P ↔ (IsTrue b × R)) (sym is) (both_same P Q R before last old new)
