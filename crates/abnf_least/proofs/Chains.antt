-- Chains of links, as more links come.
use Rattle.std.proofs.Common.{◌≡◌, ℕ, zero, suc, ◌+◌, ◌-◌, ◌^◌, ◌<◌, ◌≤◌, ◌⊎◌, inl, inr, ⊎_elim, List, [], ◌∷◌, ◌++◌, length, refl, sym, ◌∙◌, subst, arith}
use Rattle.std.proofs.lemmas.List.{length_push, get_or_append_left, get_or_push}
use Rattle.abnf_least.specs.declared.users.Link.{Link}
use Rattle.abnf_least.specs.own.Users.{link_at, MetFrom, InChain, Reaches, Leads}

abbrev none : Link
none = record { user = 0; next = 0 }

within_links : (links : List Link) (steps place user : ℕ) → InChain links steps place user → place < 2 ^ 31 + length links
within_links links zero place user chain = absurd chain
within_links links (suc steps) place user chain = ⊎_elim (λ one. let low = one.0 in omega arith) (λ link. link.1) chain

-- one user alone is met at once
pub reached_alone : (links : List Link) (place user : ℕ) → place < 2 ^ 31 → place ≡ user + 1 → Reaches links place user
reached_alone links place user low is = (1, inl (low, is))

module _ (links : List Link) (link : Link) where
  abbrev more : List Link
  more = links ++ link ∷ []

  -- the links before stay
  link_still : (place : ℕ) → 2 ^ 31 ≤ place → place < 2 ^ 31 + length links → link_at links place ≡ link_at more place
  link_still place low within = sym (get_or_append_left links (link ∷ []) none (place - 2 ^ 31) (omega arith))

  chain_still : (steps place user : ℕ) → InChain links steps place user → InChain more steps place user
  chain_still zero place user chain = absurd chain
  chain_still (suc steps) place user chain =
      ⊎_elim
      (λ one. inl one)
      (λ at.
      let within : place < 2 ^ 31 + length more = let l = length_push links link in let w = at.1 in omega arith in
      let on : MetFrom (link_at links place) place user (λ next. InChain more steps next user) =
      ⊎_elim (λ e. inl e) (λ further. inr (further.0, chain_still steps (link_at links place).next user further.1)) at.2 in
      inr (at.0, within, subst (λ x. MetFrom x place user (λ next. InChain more steps next user)) (link_still place at.0 at.1) on))
      chain

  pub reached_still : (place user : ℕ) → Reaches links place user → Reaches more place user
  reached_still place user r = (r.0, chain_still r.0 place user r.1)

  -- the new link stands at the next place
  link_last : (place : ℕ) → place ≡ 2 ^ 31 + length links → link ≡ link_at more place
  link_last place is = sym (get_or_push links link none (place - 2 ^ 31) (omega arith))

  last_within : (place : ℕ) → place ≡ 2 ^ 31 + length links → place < 2 ^ 31 + length more
  last_within place is = let l = length_push links link in omega arith

  from_last : (steps place user : ℕ) → place ≡ 2 ^ 31 + length links → MetFrom link place user (λ next. InChain more steps next user) → Reaches more place user
  from_last steps place user is on =
      (suc steps, inr (omega arith, last_within place is, subst (λ x. MetFrom x place user (λ next. InChain more steps next user)) (link_last place is) on))

  pub reached_last : (place : ℕ) → place ≡ 2 ^ 31 + length links → Reaches more place link.user
  reached_last place is = from_last 0 place link.user is (inl refl)

  pub reached_on : (place user : ℕ) → place ≡ 2 ^ 31 + length links → Reaches links link.next user → Reaches more place user
  reached_on place user is r =
      let before : link.next < place = let w = within_links links r.0 link.next user r.1 in omega arith in
      from_last r.0 place user is (inr (before, chain_still r.0 link.next user r.1))

-- what a link leads to
leads_in : (links : List Link) (place next : ℕ) → 2 ^ 31 ≤ place → ((link_at links place).next < place → next ≡ (link_at links place).next) → (steps k : ℕ) → InChain links steps place k → ((link_at links place).user ≡ k) ⊎ Reaches links next k
leads_in links place next low is zero k chain = absurd chain
leads_in links place next low is (suc steps) k chain =
    ⊎_elim
    (λ one. absurd (let o = one.0 in omega arith))
    (λ at. ⊎_elim (λ e. inl e) (λ further. inr (steps, subst (λ n. InChain links steps n k) (sym (is further.0)) further.1)) at.2)
    chain

pub leads_on : (links : List Link) (place here next : ℕ) → 2 ^ 31 ≤ place → here ≡ (link_at links place).user → ((link_at links place).next < place → next ≡ (link_at links place).next) → Leads links place here next
leads_on links place here next low same is k r = ⊎_elim (λ e. inl (same ∙ e)) (λ n. inr n) (leads_in links place next low is r.0 k r.1)

alone_in : (links : List Link) (place here : ℕ) → place < 2 ^ 31 → place ≡ here + 1 → (steps k : ℕ) → InChain links steps place k → here ≡ k
alone_in links place here low is zero k chain = absurd chain
alone_in links place here low is (suc steps) k chain = ⊎_elim (λ one. let o = one.1 in omega arith) (λ at. absurd (let a = at.0 in omega arith)) chain

pub leads_alone : (links : List Link) (place here next : ℕ) → place < 2 ^ 31 → place ≡ here + 1 → Leads links place here next
leads_alone links place here next low is k r = inl (alone_in links place here low is r.0 k r.1)

-- where there is nothing no user is met
pub ends_at : (links : List Link) (place : ℕ) → (place ≡ 0) ⊎ (2 ^ 31 + length links ≤ place) → (steps k : ℕ) → InChain links steps place k → ⊥
ends_at links place past zero k chain = chain
ends_at links place past (suc steps) k chain =
    ⊎_elim
    (λ one. ⊎_elim (λ z. let o = one.1 in omega arith) (λ p. let o = one.0 in omega arith) past)
    (λ at. ⊎_elim (λ z. let a = at.0 in omega arith) (λ p. let a = at.1 in omega arith) past)
    chain
