-- Request No. 9 of any figures at all: nothing goes out of range, and only 16, the entry taken and the figures afterwards depend on them.
use Rattle.std.proofs.Common.{◌≡◌, ℕ, zero, suc, ◌+◌, ◌-◌, ◌^◌, ◌<◌, ◌≤◌, Bool, true, false, not, min, eqb, ltb, ◌≢◌, ◌⊎◌, ◌↔◌, List, length, get_or, set, sym, refl, ap, ◌∙◌, subst, inl, inr, arith, length-set, eqb-true}
use native.Mathlib.Decide.{ℕ_discrete, dec_lt}
use mathlib.Core.Logic.{dite}
use mathlib.Core.Bool.{Bool-discrete}
use Rattle.basics.specs.Choice.{choose}
use Rattle.basics.proofs.Choice.{choose-by}
use Rattle.basics.proofs.Table.{when-none, when-refused}
use Rattle.slave_id.specs.SlaveId.{too_wide}
use Rattle.slave_id.proofs.Writing.{wide-exactly}
use Rattle.slave_plans.specs.Table.{none, is_free, has_address, lowest_from, index_of}
use Rattle.slave_plans.specs.Answer.{not_slave, is_full, found_of, change_refusal, remove_refusal}
use Rattle.slave_plans.specs.History.{Operation, Enter, Find, Change, Remove, owner_of, number_alone}
use Rattle.slave_plans.specs.declared.Slave.{Slave}
use Rattle.slave_plans.specs.declared.Occupancy.{Occupancy}
use Rattle.slave_plans.specs.declared.Found.{Found}
use Rattle.slave_plans.proofs.Addresses.{SlaveAddress, slave-exactly, slave-nonzero}
use Rattle.slave_plans.proofs.Entries.{false-unless, free-exactly, address-exactly, other-address}
use Rattle.slave_plans.proofs.Indices.{Nowhere, lowest-nowhere, lowest-none, from-here, from-lower, from-none, from-most}
use Rattle.slave_plans.proofs.Refusals.{enter-lines, enter-room, full-lines, full-either}
use Rattle.slave_plans.proofs.Finding.{identifiers}
use Rattle.slave_plans.proofs.Operations.{put-found, zero-found, put-unfound, neighbour-found, Once, once-kept, put-once, nowhere-at}
use Rattle.slave_plans.proofs.Isolation.{Parted, SameOrParted, last-parts}
use Rattle.slave_figures.specs.Keeping.{figures_of, held_by, free_by, occupancy_by, figures_with, enter_refusal_by}
use Rattle.slave_figures.specs.History.{State, answer_in, state_after}
use Rattle.slave_figures.specs.declared.Figures.{Figures}
use Rattle.slave_figures.proofs.TrueFigures.{counted}

-- ── what doesn't depend on them

-- "only 16 .. [is] free": an operation is answered as by true figures, or one of the two is 16 where the other is 0
pub any-answer : (op : Operation) (s : State)
    → (answer_in op s ≡ answer_in op (counted s.table)) ⊎ Parted (answer_in op s).number (answer_in op (counted s.table)).number
unfolding enter_refusal_by choose
any-answer (Enter slave) s =
    number-alone (behind-24 (not (eqb (length t) 32)) (last-parts (not_slave slave.address) (too_wide slave.product slave.device)
    (ltb (index_of slave.owner slave.address t) (length t)) (full s.figures) (full (figures_of t))))
  where
    t : List Slave
    t = s.table

    full : Figures → Bool
    full f = is_full (length t) (occupancy_by slave.owner f t)

    behind-24 : (wrong : Bool) {n n' : ℕ} → SameOrParted n n' → SameOrParted (choose wrong 24 n) (choose wrong 24 n')
    behind-24 true either = inl refl
    behind-24 false either = either

    number-alone : {n n' : ℕ} → SameOrParted n n' → (number_alone n ≡ number_alone n') ⊎ Parted n n'
    number-alone (inl same) = inl (ap number_alone same)
    number-alone (inr parted) = inr parted
any-answer (Find o a) s = inl refl
any-answer (Change o from to) s = inl refl
any-answer (Remove o a) s = inl refl

-- and every operation but entering leaves the table as by true ones
abbrev pub IsEnter : Operation → Type 0
IsEnter (Enter slave) = Unit
IsEnter (Find o a) = ⊥
IsEnter (Change o from to) = ⊥
IsEnter (Remove o a) = ⊥

pub any-others : (op : Operation) (s : State) → (IsEnter op → ⊥)
    → (answer_in op s ≡ answer_in op (counted s.table)) × ((state_after op s).table ≡ (state_after op (counted s.table)).table)
any-others (Enter slave) s others = absurd (others tt)
any-others (Find o a) s others = (refl, refl)
any-others (Change o from to) s others = (refl, refl)
any-others (Remove o a) s others = (refl, refl)

-- "a refusal changes nothing", neither the table nor the figures
pub refusal-nothing : (op : Operation) (s : State) → (answer_in op s).number ≢ 0 → state_after op s ≡ s
refusal-nothing op s r = go op r
  where
    same : {t : List Slave} {f : Figures} → t ≡ s.table → f ≡ s.figures → record { table = t; figures = f } ≡ s
    same table figures = λ i. record { table = table i; figures = figures i }

    go : (op : Operation) → (answer_in op s).number ≢ 0 → state_after op s ≡ s
    go (Enter slave) r = let n = enter_refusal_by s.figures slave s.table in same (when-refused n _ s.table r) (when-refused n _ s.figures r)
    go (Find o a) r = refl
    go (Change o from to) r = same (when-refused (change_refusal o from to s.table) _ s.table r) refl
    go (Remove o a) r = let n = remove_refusal o a s.table in same (when-refused n _ s.table r) (when-refused n _ s.figures r)

-- ── the entry taken

module _ (slave : Slave) (s : State) where
  abbrev t : List Slave
  t = s.table

  abbrev occupancy : Occupancy
  occupancy = occupancy_by slave.owner s.figures t

  abbrev stands : ℕ
  stands = index_of slave.owner slave.address t

  -- "entering takes only a free entry", one in the table: the lowest from the figures' on
  pub record Takes (at : ℕ) : Type 0 where
    pub inside : at < length t
    pub free : is_free (get_or t at none) ≡ true
    pub from : s.figures.lowest ≤ at
    pub lower : (k : ℕ) → s.figures.lowest ≤ k → k < at → is_free (get_or t k none) ≡ false
    pub put : (state_after (Enter slave) s).table ≡ set t at slave

  module _ (accepted : (answer_in (Enter slave) s).number ≡ 0) where
    room : (length t ≡ 32) × (occupancy.held < 24) × (occupancy.free < length t)
    unfolding enter_refusal_by
    room = enter-room (length t) stands occupancy slave accepted

    pub free-only : (at : ℕ) × Takes at
    free-only =
        let (size, few, inside) = room in (
          free_by s.figures t,
          record {
            inside = inside;
            free = from-here is_free s.figures.lowest t inside;
            from = omega arith;
            lower = from-lower is_free s.figures.lowest t;
            put = when-none (enter_refusal_by s.figures slave t) _ t accepted;
          },
        )

    -- what is found afterwards, whichever it is: the slave, and of every other address what was found before
    pub taken-found : found_of slave.owner slave.address (state_after (Enter slave) s).table ≡ identifiers slave
    unfolding enter_refusal_by
    taken-found =
        let (at, takes) = free-only in
        let (size, address, narrow, fresh, roomy) = enter-lines (length t) stands occupancy slave accepted in
        let nowhere = lowest-nowhere (has_address slave.owner slave.address) t fresh in
        ap (found_of slave.owner slave.address) takes.put
        ∙ put-found t at slave size takes.inside (slave-nonzero slave.address ((slave-exactly slave.address).0 address))
        (λ k below. nowhere k (omega (arith, below, takes.inside)))

    pub taken-others : (o : Bool) (a : ℕ) → ((o ≡ slave.owner) × (a ≡ slave.address) → ⊥) → found_of o a (state_after (Enter slave) s).table ≡ found_of o a t
    taken-others o a other =
        let (at, takes) = free-only in
        ap (found_of o a) takes.put ∙ dite (ℕ_discrete a 0)
        (λ zero. subst (λ (n : ℕ). found_of o n (set t at slave) ≡ found_of o n t) (sym zero) (zero-found o (set t at slave) t (length-set t at slave)))
        (λ some. put-unfound t at slave o a takes.inside (other-address o a _ (λ is. some (sym is ∙ (free-exactly _).0 takes.free)))
        (false-unless _ (λ y. let named = (address-exactly slave o a).0 y in other (sym named.0, sym named.1))))

  -- ── 16

  -- no entry from the figures' lowest on is free
  abbrev pub NoneFrom : Type 0
  NoneFrom = (k : ℕ) → s.figures.lowest ≤ k → k < length t → is_free (get_or t k none) ≡ false

  -- 16 comes by the figures: "exactly when it holds 24 or more, or no entry is free", as they say
  pub record FullBy : Type 0 where
    pub size : length t ≡ 32
    pub address : SlaveAddress slave.address
    pub product : slave.product < 2 ^ 24
    pub device : slave.device < 2 ^ 24
    pub fresh : Nowhere (has_address slave.owner slave.address) t
    pub full : (24 ≤ held_by slave.owner s.figures) ⊎ NoneFrom

  none_left : (24 ≤ occupancy.held) ⊎ (length t ≤ occupancy.free) → (24 ≤ occupancy.held) ⊎ NoneFrom
  none_left (inl many) = inl many
  none_left (inr past) = inr ((from-none is_free s.figures.lowest t).0 past)

  past_end : (24 ≤ occupancy.held) ⊎ NoneFrom → (24 ≤ occupancy.held) ⊎ (length t ≤ occupancy.free)
  past_end (inl many) = inl many
  past_end (inr none_free) = inr ((from-none is_free s.figures.lowest t).1 none_free)

  pub full_by : ((answer_in (Enter slave) s).number ≡ 16) ↔ FullBy
  unfolding enter_refusal_by
  full_by = (
    λ e.
        let (size, address, narrow, fresh, full) = (full-lines (length t) stands occupancy slave).0 e in
        let bounds = (wide-exactly slave.product slave.device).0 narrow in
        record {
          size = size;
          address = (slave-exactly slave.address).0 address;
          product = bounds.0;
          device = bounds.1;
          fresh = lowest-nowhere (has_address slave.owner slave.address) t fresh;
          full = none_left ((full-either (length t) occupancy).0 full);
        },
    λ r.
        (full-lines (length t) stands occupancy slave).1 (
          r.size,
          (slave-exactly slave.address).1 r.address,
          (wide-exactly slave.product slave.device).1 (r.product, r.device),
          omega (arith, lowest-none (has_address slave.owner slave.address) t r.fresh),
          (full-either (length t) occupancy).1 (past_end r.full),
        ),
  )

-- so where it is answered as by true figures, all that is found afterwards is as by true ones
pub any_found : (op : Operation) (s : State) → answer_in op s ≡ answer_in op (counted s.table) → (o : Bool) (a : ℕ)
    → found_of o a (state_after op s).table ≡ found_of o a (state_after op (counted s.table)).table
any_found (Enter slave) s same o a =
    let s' = counted s.table in
    let number = ap (λ (f : Found). f.number) same in
    dite (ℕ_discrete (answer_in (Enter slave) s).number 0)
    (λ e. dite (Bool-discrete o slave.owner)
    (λ own. dite (ℕ_discrete a slave.address)
    (λ at.
    subst (λ (x : Bool). found_of x a (state_after (Enter slave) s).table ≡ found_of x a (state_after (Enter slave) s').table) (sym own)
    (subst (λ (n : ℕ). found_of slave.owner n (state_after (Enter slave) s).table ≡ found_of slave.owner n (state_after (Enter slave) s').table) (sym at)
    (taken-found slave s e ∙ sym (taken-found slave s' (sym number ∙ e)))))
    (λ elsewhere. unconcerned e (sym number ∙ e) (λ (own, at). elsewhere at)))
    (λ neighbour. unconcerned e (sym number ∙ e) (λ (own, at). neighbour own)))
    (λ r.
    ap (λ (x : State). found_of o a x.table) (refusal-nothing (Enter slave) s r)
    ∙ sym (ap (λ (x : State). found_of o a x.table) (refusal-nothing (Enter slave) s' (λ z. r (number ∙ z)))))
  where
    unconcerned : (answer_in (Enter slave) s).number ≡ 0 → (answer_in (Enter slave) (counted s.table)).number ≡ 0
        → ((o ≡ slave.owner) × (a ≡ slave.address) → ⊥)
        → found_of o a (state_after (Enter slave) s).table ≡ found_of o a (state_after (Enter slave) (counted s.table)).table
    unconcerned e e' other = taken-others slave s e o a other ∙ sym (taken-others slave (counted s.table) e' o a other)
any_found (Find o' a') s same o a = refl
any_found (Change o' from to) s same o a = refl
any_found (Remove o' a') s same o a = refl

-- ── "nothing goes out of range": figures of eight bits stay so

pub record InRange (f : Figures) : Type 0 where
  pub no : f.no < 2 ^ 8
  pub yes : f.yes < 2 ^ 8
  pub lowest : f.lowest < 2 ^ 8

held-in-range : (o : Bool) (f : Figures) → InRange f → held_by o f < 2 ^ 8
unfolding held_by choose
held-in-range true f r = r.yes
held-in-range false f r = r.no

with-in-range : (o : Bool) (held free : ℕ) (f : Figures) → held < 2 ^ 8 → free < 2 ^ 8 → InRange f → InRange (figures_with o held free f)
unfolding figures_with choose
with-in-range true held free f h l r = record { no = r.no; yes = h; lowest = l }
with-in-range false held free f h l r = record { no = h; yes = r.yes; lowest = l }

pub in-range : (op : Operation) (s : State) → InRange s.figures → InRange (state_after op s).figures
in-range (Enter slave) s r =
    choose-by InRange (eqb (enter_refusal_by s.figures slave s.table) 0)
    (λ accepted.
    let (size, few, inside) = room slave s (eqb-true _ 0 accepted) in
    let next = from-most is_free (suc (free_by s.figures s.table)) s.table inside in
    with-in-range slave.owner _ _ s.figures (omega (arith, few)) (omega (arith, next, size)) r)
    (λ refused. r)
in-range (Find o a) s r = r
in-range (Change o from to) s r = r
in-range (Remove o a) s r =
    choose-by InRange (eqb (remove_refusal o a s.table) 0)
    (λ accepted.
    with-in-range o _ _ s.figures (omega (arith, held-in-range o s.figures r)) (omega (arith, r.lowest)) r)
    (λ refused. r)

-- ── the figures afterwards, by any

-- an owner's number is another, and the other owner's stays
held_with : (o : Bool) (held free : ℕ) (f : Figures) → (held_by o (figures_with o held free f) ≡ held) × (held_by (not o) (figures_with o held free f) ≡ held_by (not o) f)
unfolding held_by figures_with choose
held_with true held free f = (refl, refl)
held_with false held free f = (refl, refl)

free-with : (o : Bool) (held free : ℕ) (f : Figures) → (figures_with o held free f).lowest ≡ free
unfolding figures_with
free-with o held free f = refl

-- entering: the owner holds one more, and the lowest free entry is the next one behind the entry taken, or past the end
pub record Raised (o : Bool) (t : List Slave) (at : ℕ) (before after : Figures) : Type 0 where
  pub own : held_by o after ≡ suc (held_by o before)
  pub other : held_by (not o) after ≡ held_by (not o) before
  pub behind : at < after.lowest
  pub between : (k : ℕ) → at < k → k < after.lowest → is_free (get_or t k none) ≡ false
  pub free : after.lowest < length t → is_free (get_or t after.lowest none) ≡ true
  pub most : after.lowest ≤ length t

pub entered-figures : (slave : Slave) (s : State) (accepted : (answer_in (Enter slave) s).number ≡ 0)
    → Raised slave.owner s.table (free-only slave s accepted).0 s.figures (state_after (Enter slave) s).figures
unfolding free-only
entered-figures slave s accepted =
    subst (Raised o t at s.figures) (sym (when-none (enter_refusal_by s.figures slave t) _ s.figures accepted))
    (let is = free-with o held next s.figures in
    record {
      own = (held_with o held next s.figures).0 ∙ omega arith;
      other = (held_with o held next s.figures).1;
      behind = omega (arith, is);
      between = λ k behind below. from-lower is_free (suc at) t k behind (omega (arith, is, below));
      free = λ inside. subst (λ (n : ℕ). is_free (get_or t n none) ≡ true) (sym is) (from-here is_free (suc at) t (omega (arith, is, inside)));
      most = omega (arith, is, from-most is_free (suc at) t (free-only slave s accepted).1.inside);
    })
  where
    o : Bool
    o = slave.owner

    t : List Slave
    t = s.table

    at : ℕ
    at = free_by s.figures t

    held : ℕ
    held = held_by o s.figures + 1

    next : ℕ
    next = lowest_from (suc at) is_free t

-- removing: the owner holds one less, or 0 as before, and the lowest free entry is the lower of the one that was and the one zeroed
pub record Lessened (o : Bool) (index : ℕ) (before after : Figures) : Type 0 where
  pub own : (suc (held_by o after) ≡ held_by o before) ⊎ ((held_by o before ≡ 0) × (held_by o after ≡ 0))
  pub other : held_by (not o) after ≡ held_by (not o) before
  pub most : (after.lowest ≤ before.lowest) × (after.lowest ≤ index)
  pub one_of : (after.lowest ≡ before.lowest) ⊎ (after.lowest ≡ index)

pub removed-figures : (o : Bool) (a : ℕ) (s : State) → (answer_in (Remove o a) s).number ≡ 0
    → Lessened o (index_of o a s.table) s.figures (state_after (Remove o a) s).figures
removed-figures o a s accepted =
    subst (Lessened o index f) (sym (when-none (remove_refusal o a s.table) _ f accepted))
    (let is = free-with o (held_by o f - 1) lower f in
    record {
      own = less (held_by o f) (held_with o (held_by o f - 1) lower f).0;
      other = (held_with o (held_by o f - 1) lower f).1;
      most = (omega (arith, is), omega (arith, is));
      one_of = dite (dec_lt index f.lowest) (λ below. inr (omega (arith, is, below))) (λ past. inl (omega (arith, is, past)));
    })
  where
    f : Figures
    f = s.figures

    index : ℕ
    index = index_of o a s.table

    lower : ℕ
    lower = min index f.lowest

    less : {after : ℕ} (n : ℕ) → after ≡ n - 1 → (suc after ≡ n) ⊎ ((n ≡ 0) × (after ≡ 0))
    less zero is = inr (refl, is)
    less (suc n) is = inl (omega (arith, is))

-- ── No. 7 and No. 8, of any table and any figures

-- what an owner finds is untouched by the other's operations
pub any-neighbour : (op : Operation) (s : State) (o : Bool) (a : ℕ) → owner_of op ≢ o → found_of o a (state_after op s).table ≡ found_of o a s.table
any-neighbour (Enter slave) s o a other =
    dite (ℕ_discrete (answer_in (Enter slave) s).number 0)
    (λ e. taken-others slave s e o a (λ (own, at). other (sym own)))
    (λ r. ap (λ (x : State). found_of o a x.table) (refusal-nothing (Enter slave) s r))
any-neighbour (Find o' a') s o a other = refl
any-neighbour (Change o' from to) s o a other = neighbour-found (Change o' from to) s.table o a other
any-neighbour (Remove o' a') s o a other = neighbour-found (Remove o' a') s.table o a other

-- no owner comes to have an address twice
pub any-once : (op : Operation) (s : State) → Once s.table → Once (state_after op s).table
unfolding enter_refusal_by
any-once (Enter slave) s once =
    dite (ℕ_discrete (answer_in (Enter slave) s).number 0)
    (λ e.
    let (at, takes) = free-only slave s e in
    let (size, address, narrow, fresh, roomy) = enter-lines (length s.table) (index_of slave.owner slave.address s.table) (occupancy_by slave.owner s.figures s.table) slave e in
    subst Once (sym takes.put) (put-once s.table at slave takes.inside once
    (λ k other some there own. nowhere-at slave.owner slave.address s.table (lowest-nowhere (has_address slave.owner slave.address) s.table fresh) some k there own)))
    (λ r. subst Once (sym (ap (λ (x : State). x.table) (refusal-nothing (Enter slave) s r))) once)
any-once (Find o a) s once = once
any-once (Change o from to) s once = once-kept (Change o from to) s.table once
any-once (Remove o a) s once = once-kept (Remove o a) s.table once
