-- A code for grammars, by which proofs tell them apart.
use Rattle.std.specs.Prelude.{ℕ, List, Bool, refl}
use Rattle.std.specs.Coded.{Coded, code_by, coded_ℕ, coded_bool, coded_list, coded×}
use Rattle.ls_text.specs.declared.position.Place.{Place}
use Rattle.abnf_syntax.specs.declared.fault.SyntaxFault.{SyntaxFault}
use Rattle.abnf_syntax.specs.declared.fault.SyntaxFault.TheVariants as f
use Rattle.std.proofs.Common.{◌≡◌, zero, suc}
use Rattle.abnf_parts.specs.Part.{Part}
use Rattle.abnf_parts.specs.PartCode.{trees_code}
use Rattle.abnf_names.specs.Places.{Named}
use Rattle.abnf_names.specs.Rules.{Grammar}

abbrev Numbers : Type 0
Numbers = ℕ × (ℕ × ℕ)

abbrev numbers_code : Coded Numbers
numbers_code = coded× coded_ℕ (coded× coded_ℕ coded_ℕ)

abbrev place_code : Coded Place
place_code = code_by Numbers numbers_code (λ p. (p.line, (p.start, p.end))) (λ n. record { line = n.0; start = n.1.0; end = n.1.1 }) (λ p. refl)

-- a code for places with names
abbrev pub named_code : Coded Named
named_code = code_by (List ℕ × (Place × Bool)) (coded× (coded_list coded_ℕ) (coded× place_code coded_bool)) (λ n. (n.text, (n.place, n.defines))) (λ t. record { text = t.0; place = t.1.0; defines = t.1.1 }) (λ n. refl)

abbrev numbered : SyntaxFault → ℕ × Place
numbered (f.NoName p) = (1, p)
numbered (f.NoDefinedAs p) = (2, p)
numbered (f.BadToken p) = (3, p)
numbered (f.ElementExpected p) = (4, p)
numbered (f.BlankExpected p) = (5, p)
numbered (f.Unclosed p) = (6, p)
numbered (f.NumberTooLarge p) = (7, p)
numbered (f.TooDeep p) = (8, p)
numbered f.Memory = (0, record { line = 0; start = 0; end = 0 })

abbrev numbered_fault : ℕ × Place → SyntaxFault
numbered_fault (suc zero, p) = f.NoName p
numbered_fault (suc (suc zero), p) = f.NoDefinedAs p
numbered_fault (suc (suc (suc zero)), p) = f.BadToken p
numbered_fault (suc (suc (suc (suc zero))), p) = f.ElementExpected p
numbered_fault (suc (suc (suc (suc (suc zero)))), p) = f.BlankExpected p
numbered_fault (suc (suc (suc (suc (suc (suc zero))))), p) = f.Unclosed p
numbered_fault (suc (suc (suc (suc (suc (suc (suc zero)))))), p) = f.NumberTooLarge p
numbered_fault (suc (suc (suc (suc (suc (suc (suc (suc zero))))))), p) = f.TooDeep p
numbered_fault (_, p) = f.Memory

-- a fault is read back from its number and its place
pub fault_back : (fault : SyntaxFault) → numbered_fault (numbered fault) ≡ fault
fault_back (f.NoName p) = refl
fault_back (f.NoDefinedAs p) = refl
fault_back (f.BadToken p) = refl
fault_back (f.ElementExpected p) = refl
fault_back (f.BlankExpected p) = refl
fault_back (f.Unclosed p) = refl
fault_back (f.NumberTooLarge p) = refl
fault_back (f.TooDeep p) = refl
fault_back f.Memory = refl

abbrev fault_code : Coded SyntaxFault
fault_code = code_by (ℕ × Place) (coded× coded_ℕ place_code) numbered numbered_fault fault_back

abbrev Fields : Type 0
Fields = List ℕ × (List (List ℕ) × (List Part × (List Named × List (Place × SyntaxFault))))

-- a code for grammars, by their fields
abbrev pub grammar_code : Coded Grammar
grammar_code = code_by Fields
    (coded× (coded_list coded_ℕ) (coded× (coded_list (coded_list coded_ℕ)) (coded× trees_code (coded× (coded_list named_code) (coded_list (coded× place_code fault_code))))))
    (λ g. (g.text, (g.names, (g.rules, (g.places, g.faults)))))
    (λ t. record { text = t.0; names = t.1.0; rules = t.1.1.0; places = t.1.1.1.0; faults = t.1.1.1.1 })
    (λ g. refl)
