-- What a lawful table's bytes hold, and the bits of its masks.
use Rattle.std.proofs.Common.{◌≡◌, ℕ, ◌+◌, ◌<◌, Bool, true, false, cond, ◌&&◌, ◌||◌, eqb, ltb, ◌⊎◌, [], get_or, sym, subst, refl, ap, ◌∙◌, inl, inr, ⊎_elim, arith}
use Rattle.std.proofs.lemmas.Bool.{and_parts, and_from, and_left, and_right, or_from, or_right, lt-ltb, eq-eqb, eqb-true, ne_eqb, cond-true, cond-false, cases_Bool, true≢false}
use Rattle.std.proofs.lemmas.Bool.Decides.{nat_tests}
use Rattle.std.specs.Simd.{first_chunks}
use Rattle.monitor.proofs.Records.{arc_there, guard_there}
use Rattle.monitor.specs.Guards.{guard_at, triggers}
use Rattle.monitor.specs.declared.bytes.Arc.{Arc}
use Rattle.monitor.proofs.Below.{all_decides, any_decides, any_more}
use Rattle.monitor.specs.Tables.{Description, guard_count, arc_count, arc_lawful, arc_at, lawful_table, any_below, leads, moves, table, LeadingArc, ArcSteps}
use Rattle.history.specs.declared.Label.{Label}

-- the guard of an arc is one of the table's guards
guard_listed : (d : Description) → lawful_table d ≡ true → (k : ℕ) → k < arc_count d → (arc_at d.arcs k).guard < guard_count d
guard_listed d ok k l =
    let arcs = (all_decides (arc_count d) (λ i. arc_lawful d.states (guard_count d) (arc_at d.arcs i))).0 in
    grind (arith, nat_tests, arcs)

-- arc k, as a step's search reads it: the arc, and whether it leads on
pub record Read (d : Description) (s : ℕ) (e : Label) (k : ℕ) (a : Arc) (on : Bool) : Type 0 where
  pub listed : k < arc_count d
  pub arc : a ≡ arc_at d.arcs k
  pub leads_on : on ≡ leads d s e k

pub guard_read : (d : Description) → lawful_table d ≡ true → (k : ℕ) (a : Arc) → k < arc_count d
    → a ≡ arc_at (get_or (first_chunks 3 (arc_count d) d.arcs) k []) 0 → a.guard < guard_count d
guard_read d ok k a l read = subst (λ x. x.guard < guard_count d) (sym (read ∙ arc_there (arc_count d) k d.arcs l)) (guard_listed d ok k l)

pub reads : (d : Description) → lawful_table d ≡ true → (s : ℕ) (e : Label) (k : ℕ) (a : Arc) (on : Bool) → k < arc_count d
    → a ≡ arc_at (get_or (first_chunks 3 (arc_count d) d.arcs) k []) 0
    → on ≡ (eqb a.from s && triggers (guard_at (get_or (first_chunks 10 (guard_count d) d.guards) a.guard []) 0) e)
    → Read d s e k a on
reads d ok s e k a on l read tested =
    let there : a ≡ arc_at d.arcs k = read ∙ arc_there (arc_count d) k d.arcs l in
    record { listed = l; arc = there; leads_on = cc (guard_there (guard_count d) a.guard d.guards (guard_read d ok k a l read)) }

-- what a step's search knows behind the first k arcs: whether s keeps itself, and that none of them leads to t
pub record Searched (d : Description) (s : ℕ) (e : Label) (t k : ℕ) (stays : Bool) : Type 0 where
  pub keeps : stays ≡ cond (any_below k (leads d s e)) false (eqb s t)
  pub missed : any_below k (λ i. leads d s e i && eqb (arc_at d.arcs i).to t) ≡ false

module _ (d : Description) (s : ℕ) (e : Label) (t : ℕ) where
  led : (k : ℕ) → k < arc_count d → leads d s e k ≡ true → (arc_at d.arcs k).to ≡ t → moves d s e t ≡ true
  led k l lead to =
      cond-true (any_below (arc_count d) (leads d s e)) _ _ ((any_decides (arc_count d) (leads d s e)).1 (k, l, lead))
      ∙ (any_decides (arc_count d) _).1 (k, l, and_from _ _ lead (eq-eqb _ _ to))

  pub found : (k : ℕ) (a : Arc) → Read d s e k a true → a.to ≡ t → true ≡ moves d s e t
  found k a r to = sym (led k r.listed (sym r.leads_on) (sym (ap (λ x. x.to) r.arc) ∙ to))

  pub elsewhere : (k : ℕ) (a : Arc) (b : Bool) → Searched d s e t k b → Read d s e k a true → (a.to ≡ t → ⊥) → Searched d s e t (k + 1) false
  elsewhere k a b p r other = record {
    keeps = sym (cond-true _ _ _ (any_more k (leads d s e) ∙ or_right _ _ (sym r.leads_on)));
    missed = any_more k _ ∙ or_from _ _ p.missed (and_right _ _ (ne_eqb _ _ (λ to. other (ap (λ x. x.to) r.arc ∙ to))));
  }

  pub passed : (k : ℕ) (a : Arc) (b : Bool) → Searched d s e t k b → Read d s e k a false → Searched d s e t (k + 1) b
  passed k a b p r = record {
    keeps = p.keeps ∙ ap (λ x. cond x false (eqb s t)) (sym (any_more k (leads d s e) ∙ ap (λ x. any_below k (leads d s e) || x) (sym r.leads_on) ∙ or_false (any_below k (leads d s e))));
    missed = any_more k _ ∙ or_from _ _ p.missed (and_left _ _ (sym r.leads_on));
  }
    where
      or_false : (x : Bool) → (x || false) ≡ x
      or_false true = refl
      or_false false = refl

leading : (d : Description) (s : ℕ) (e : Label) (t k : ℕ) → k < arc_count d → leads d s e k ≡ true → (arc_at d.arcs k).to ≡ t → LeadingArc d s e t
leading d s e t k l p to =
    let q = and_parts (eqb (arc_at d.arcs k).from s) _ p in
    record { number = k; listed = l; from = eqb-true _ _ q.0; triggered = q.1; to = to }

leads_on : (d : Description) (s : ℕ) (e : Label) (t : ℕ) (a : LeadingArc d s e t) → leads d s e a.number ≡ true
leads_on d s e t a = and_from _ _ (eq-eqb _ _ a.from) a.triggered

-- the step of a table in terms of its arcs
pub arc_steps : (d : Description) → ArcSteps d
arc_steps d s e t ls lt = (forth, back)
  where
    by_arc : moves d s e t ≡ true → any_below (arc_count d) (leads d s e) ≡ true → LeadingArc d s e t
    by_arc p on =
        let f = (any_decides (arc_count d) (λ k. leads d s e k && eqb (arc_at d.arcs k).to t)).0 (sym (cond-true _ _ _ on) ∙ p) in
        let q = and_parts (leads d s e f.0) _ f.2 in
        leading d s e t f.0 f.1 q.0 (eqb-true _ _ q.1)

    stays : moves d s e t ≡ true → any_below (arc_count d) (leads d s e) ≡ false → (s ≡ t) × ((u : ℕ) → LeadingArc d s e u → ⊥)
    stays p off = (
      eqb-true s t (sym (cond-false _ _ _ off) ∙ p),
      λ u a. true≢false (sym ((any_decides (arc_count d) (leads d s e)).1 (a.number, a.listed, leads_on d s e u a)) ∙ off),
    )

    forth : (table d).step s e t ≡ true → LeadingArc d s e t ⊎ ((s ≡ t) × ((u : ℕ) → LeadingArc d s e u → ⊥))
    forth p =
        let m = (and_parts (ltb t d.states) _ (and_parts (ltb s d.states) _ p).1).1 in
        ⊎_elim (λ (on : any_below (arc_count d) (leads d s e) ≡ true). inl (by_arc m on)) (λ off. inr (stays m off))
        (cases_Bool (any_below (arc_count d) (leads d s e)))

    kept : s ≡ t → ((u : ℕ) → LeadingArc d s e u → ⊥) → moves d s e t ≡ true
    kept same none = ⊎_elim
        (λ (on : any_below (arc_count d) (leads d s e) ≡ true).
        let f = (any_decides (arc_count d) (leads d s e)).0 on in
        absurd (none (arc_at d.arcs f.0).to (leading d s e _ f.0 f.1 f.2 refl)))
        (λ off. cond-false _ _ _ off ∙ eq-eqb s t same)
        (cases_Bool (any_below (arc_count d) (leads d s e)))

    back : LeadingArc d s e t ⊎ ((s ≡ t) × ((u : ℕ) → LeadingArc d s e u → ⊥)) → (table d).step s e t ≡ true
    back either = and_from _ _ (lt-ltb s d.states ls) (and_from _ _ (lt-ltb t d.states lt) (⊎_elim
        (λ (a : LeadingArc d s e t). led d s e t a.number a.listed (leads_on d s e t a) a.to)
        (λ (same, none). kept same none)
        either))
