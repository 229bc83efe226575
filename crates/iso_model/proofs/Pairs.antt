-- Two runs of a block from one point, over resources that are equal where the rights let it look.
use Rattle.std.proofs.Common.{◌≡◌, ℕ, zero, suc, List, [], ◌∷◌, ◌++◌, Bool, true, false, cond, Option, Some, None, Result, Ok, Err, is_some, length, refl, ap, ◌∙◌, subst}
use Rattle.iso_model.specs.ResourceKeys.{properties_key, locale_key, file_key}
use Rattle.iso_model.specs.Rights.{Rights, is_writable}
use Rattle.iso_model.specs.Resources.{Resources, text_in}
use Rattle.iso_model.specs.ChainAgreement.{EqualAt, Alike, AlikeAt}
use Rattle.iso_model.specs.Names.{binding_of, assigned}
use Rattle.iso_model.specs.Syntax.{Term, Plain, let_name, assign, print, assert, assert_equal, assume, fail, set_prop, clear_prop, set_locale, write_file, append_file, delete_file, Act, plain, choice, repeat, Acts, no_acts, act}
use Rattle.iso_model.specs.Texts.{text_of}
use Rattle.iso_model.specs.Evaluation.{then, as_flag, as_count, as_text, as_texts, is_equal, is_short, evaluated}
use Rattle.iso_model.specs.Statements.{Local, State, is_well, performed, faults, with_steps, changing, upon, allowed, appending, deleting, has_room, taking, step_or_end, keeping, scoped, turns, run, ran}
use Rattle.iso_model.specs.Steps.{Piece, rest, turning, Point, Machine, machine_at, next_point, chosen, counted, begin, followed_by, step_at, step, finish}
use Rattle.iso_model.specs.declared.access.Access.TheVariants.{Write}
use Rattle.iso_model.specs.declared.fault.Fault.{Fault}
use Rattle.iso_model.specs.declared.fault.Fault.TheVariants.{Undeclared}
use Rattle.iso_model.specs.declared.resource.Change.{Change}
use Rattle.iso_model.specs.declared.resource.Change.TheVariants as C
use Rattle.iso_model.proofs.ChainAgreement.{evaluated-agree, then-agree, agree-changed, writable-readable}

abbrev at : Local → Resources → State
at l m = record { here = l; resources = m }

module _ (r : Rights) where
  -- two functions do the same from one point
  pub record Same (f g : State → State) : Type 0 where
    pub from : (l : Local) (m n : Resources) → EqualAt r m n → Alike r (f (at l m)) (g (at l n))

  alike : (l : Local) (m n : Resources) → EqualAt r m n → Alike r (at l m) (at l n)
  alike l m n agree = record { here = refl; resources = agree }

  pub same-at : (f g : State → State) → Same f g → (s t : State) → Alike r s t → Alike r (f s) (g t)
  same-at f g same s t both = subst (λ (l : Local). Alike r (f s) (g (at l t.resources))) both.here (same.from s.here s.resources t.resources both.resources)

  cond-alike : (b : Bool) (s s' t t' : State) → Alike r s t → Alike r s' t' → Alike r (cond b s s') (cond b t t')
  cond-alike true s s' t t' p q = p
  cond-alike false s s' t t' p q = q

  upon-alike_at : {A : Type 0} (row : ℕ) (x : Result A Fault) (l : Local) (m n : Resources) → EqualAt r m n
      → (f g : A → State) → ((v : A) → Alike r (f v) (g v)) → Alike r (upon row x (at l m) f) (upon row x (at l n) g)
  upon-alike_at row (Ok v) l m n agree f g each = each v
  upon-alike_at row (Err fault) l m n agree f g each = record { here = refl; resources = agree }

  upon-alike : {A : Type 0} (row : ℕ) (x y : Result A Fault) → x ≡ y → (l : Local) (m n : Resources) → EqualAt r m n
      → (f g : A → State) → ((v : A) → Alike r (f v) (g v)) → Alike r (upon row x (at l m) f) (upon row y (at l n) g)
  upon-alike row x y e l m n agree f g each = subst (λ (z : Result _ Fault). Alike r (upon row x (at l m) f) (upon row z (at l n) g)) e (upon-alike_at row x l m n agree f g each)

  changing-alike : (l : Local) (m n : Resources) → EqualAt r m n → (k : List ℕ) (change : Change) → Alike r (changing k change (at l m)) (changing k change (at l n))
  changing-alike l m n agree k change = record { here = refl; resources = agree-changed r m n agree k change }

  allowed-alike_at : (b : Bool) (k : List ℕ) (row : ℕ) (l : Local) (m n : Resources) → EqualAt r m n → (s t : State) → (b ≡ true → Alike r s t)
      → Alike r (cond b s (faults row (Undeclared Write k) (at l m))) (cond b t (faults row (Undeclared Write k) (at l n)))
  allowed-alike_at true k row l m n agree s t both = both refl
  allowed-alike_at false k row l m n agree s t both = record { here = refl; resources = agree }

  allowed-alike : (k : List ℕ) (row : ℕ) (l : Local) (m n : Resources) → EqualAt r m n → (s t : State)
      → (is_writable (r k) ≡ true → Alike r s t) → Alike r (allowed r row k (at l m) s) (allowed r row k (at l n) t)
  allowed-alike k row l m n agree s t both = allowed-alike_at (is_writable (r k)) k row l m n agree s t both

  appending-alike_at : (row : ℕ) (p t : List ℕ) (found : Option (List ℕ)) (l : Local) (m n : Resources) → EqualAt r m n → Alike r (appending row p t found (at l m)) (appending row p t found (at l n))
  appending-alike_at row p t None l m n agree = record { here = refl; resources = agree }
  appending-alike_at row p t (Some text) l m n agree =
      cond-alike (is_short (text ++ t)) _ _ _ _ (changing-alike l m n agree (file_key p) (C.WriteFile (text ++ t))) (record { here = refl; resources = agree })

  deleting-alike_at : (row : ℕ) (p : List ℕ) (found : Option (List ℕ)) (l : Local) (m n : Resources) → EqualAt r m n → Alike r (deleting row p found (at l m)) (deleting row p found (at l n))
  deleting-alike_at row p None l m n agree = record { here = refl; resources = agree }
  deleting-alike_at row p (Some text) l m n agree = changing-alike l m n agree (file_key p) C.DeleteFile

  -- what both find at a file that may be changed
  same_text : (m n : Resources) → EqualAt r m n → (p : List ℕ) → is_writable (r (file_key p)) ≡ true → text_in (m (file_key p)) ≡ text_in (n (file_key p))
  same_text m n agree p writable = ap text_in (agree.same (file_key p) (writable-readable (r (file_key p)) writable))

  appending-alike : (row : ℕ) (p t : List ℕ) (l : Local) (m n : Resources) → EqualAt r m n → is_writable (r (file_key p)) ≡ true
      → Alike r (appending row p t (text_in (m (file_key p))) (at l m)) (appending row p t (text_in (n (file_key p))) (at l n))
  appending-alike row p t l m n agree writable =
      subst (λ (o : Option (List ℕ)). Alike r (appending row p t (text_in (m (file_key p))) (at l m)) (appending row p t o (at l n))) (same_text m n agree p writable)
      (appending-alike_at row p t (text_in (m (file_key p))) l m n agree)

  deleting-alike : (row : ℕ) (p : List ℕ) (l : Local) (m n : Resources) → EqualAt r m n → is_writable (r (file_key p)) ≡ true
      → Alike r (deleting row p (text_in (m (file_key p))) (at l m)) (deleting row p (text_in (n (file_key p))) (at l n))
  deleting-alike row p l m n agree writable =
      subst (λ (o : Option (List ℕ)). Alike r (deleting row p (text_in (m (file_key p))) (at l m)) (deleting row p o (at l n))) (same_text m n agree p writable)
      (deleting-alike_at row p (text_in (m (file_key p))) l m n agree)

  two_texts : (names : List _) (m n : Resources) → EqualAt r m n → (a b : Term)
      → then (evaluated names m r a) (λ x. then (evaluated names m r b) (as_texts x)) ≡ then (evaluated names n r a) (λ x. then (evaluated names n r b) (as_texts x))
  two_texts names m n agree a b = then-agree _ _ _ _ (evaluated-agree names r m n agree a) (λ x. ap (λ z. then z (as_texts x)) (evaluated-agree names r m n agree b))

  -- a statement without a body does the same over both
  pub performed-same : (row : ℕ) (p : Plain) → Same (performed r row p) (performed r row p)
  performed-same row (let_name x e) = record {
    from = λ l m n agree. upon-alike row _ _ (evaluated-agree l.env.names r m n agree e) l m n agree _ _
        (λ d. cond-alike (is_some (binding_of l.env.names x)) _ _ _ _ (record { here = refl; resources = agree }) (record { here = refl; resources = agree }));
  }
  performed-same row (assign x e) = record {
    from = λ l m n agree. upon-alike row _ _ (ap (λ z. then z (assigned l.env.names x)) (evaluated-agree l.env.names r m n agree e)) l m n agree _ _
        (λ names. record { here = refl; resources = agree });
  }
  performed-same row (print e) = record {
    from = λ l m n agree. upon-alike row _ _ (evaluated-agree l.env.names r m n agree e) l m n agree _ _
        (λ d. cond-alike (has_room l (text_of d)) _ _ _ _ (record { here = refl; resources = agree }) (record { here = refl; resources = agree }));
  }
  performed-same row (assert e) = record {
    from = λ l m n agree. upon-alike row _ _ (ap (λ z. then z as_flag) (evaluated-agree l.env.names r m n agree e)) l m n agree _ _
        (λ holds. cond-alike holds _ _ _ _ (record { here = refl; resources = agree }) (record { here = refl; resources = agree }));
  }
  performed-same row (assert_equal a b) = record {
    from = λ l m n agree. upon-alike row _ _ (evaluated-agree l.env.names r m n agree a) l m n agree _ _
        (λ x. upon-alike row _ _ (evaluated-agree l.env.names r m n agree b) l m n agree _ _
        (λ y. upon-alike row (is_equal x y) (is_equal x y) refl l m n agree _ _
        (λ holds. cond-alike holds _ _ _ _ (record { here = refl; resources = agree }) (record { here = refl; resources = agree }))));
  }
  performed-same row (assume e reason) = record {
    from = λ l m n agree. upon-alike row _ _ (ap (λ z. then z as_flag) (evaluated-agree l.env.names r m n agree e)) l m n agree _ _
        (λ holds. cond-alike holds _ _ _ _ (record { here = refl; resources = agree }) (record { here = refl; resources = agree }));
  }
  performed-same row (fail message) = record { from = λ l m n agree. record { here = refl; resources = agree } }
  performed-same row (set_prop a b) = record {
    from = λ l m n agree. upon-alike row _ _ (two_texts l.env.names m n agree a b) l m n agree _ _
        (λ xt. allowed-alike properties_key row l m n agree _ _ (λ w. changing-alike l m n agree properties_key (C.SetProp xt.0 xt.1)));
  }
  performed-same row (clear_prop e) = record {
    from = λ l m n agree. upon-alike row _ _ (ap (λ z. then z as_text) (evaluated-agree l.env.names r m n agree e)) l m n agree _ _
        (λ x. allowed-alike properties_key row l m n agree _ _ (λ w. changing-alike l m n agree properties_key (C.ClearProp x)));
  }
  performed-same row (set_locale e) = record {
    from = λ l m n agree. upon-alike row _ _ (ap (λ z. then z as_text) (evaluated-agree l.env.names r m n agree e)) l m n agree _ _
        (λ t. allowed-alike locale_key row l m n agree _ _ (λ w. changing-alike l m n agree locale_key (C.SetLocale t)));
  }
  performed-same row (write_file a b) = record {
    from = λ l m n agree. upon-alike row _ _ (two_texts l.env.names m n agree a b) l m n agree _ _
        (λ pt. allowed-alike (file_key pt.0) row l m n agree _ _ (λ w. changing-alike l m n agree (file_key pt.0) (C.WriteFile pt.1)));
  }
  performed-same row (append_file a b) = record {
    from = λ l m n agree. upon-alike row _ _ (two_texts l.env.names m n agree a b) l m n agree _ _
        (λ pt. allowed-alike (file_key pt.0) row l m n agree _ _ (λ w. appending-alike row pt.0 pt.1 l m n agree w));
  }
  performed-same row (delete_file e) = record {
    from = λ l m n agree. upon-alike row _ _ (ap (λ z. then z as_text) (evaluated-agree l.env.names r m n agree e)) l m n agree _ _
        (λ p. allowed-alike (file_key p) row l m n agree _ _ (λ w. deleting-alike row p l m n agree w));
  }

  taking-alike_at : (row k : ℕ) (l : Local) (m n : Resources) → EqualAt r m n → (f g : State → State) → Same f g → Alike r (step_or_end row k (at l m) f) (step_or_end row k (at l n) g)
  taking-alike_at row zero l m n agree f g same = record { here = refl; resources = agree }
  taking-alike_at row (suc k) l m n agree f g same = same.from (with_steps k l) m n agree

  taking-same : (row : ℕ) (f g : State → State) → Same f g → Same (λ s. taking row s f) (λ s. taking row s g)
  taking-same row f g same = record { from = λ l m n agree. cond-alike (is_well l.ending) _ _ _ _ (taking-alike_at row l.env.steps l m n agree f g same) (alike l m n agree) }

  keeping-same : (k : ℕ) → Same (keeping k) (keeping k)
  keeping-same k = record { from = λ l m n agree. cond-alike (is_well l.ending) _ _ _ _ (record { here = refl; resources = agree }) (alike l m n agree) }

  scoped-same : (f g : State → State) → Same f g → Same (scoped f) (scoped g)
  scoped-same f g same = record {
    from = λ l m n agree. same-at (keeping (length l.env.names)) (keeping (length l.env.names)) (keeping-same (length l.env.names)) (f (at l m)) (g (at l n))
        (same.from l m n agree);
  }

  turns-alike : (row k : ℕ) (f g : State → State) → Same f g → (s t : State) → Alike r s t → Alike r (turns row k f s) (turns row k g t)
  turns-alike row zero f g same s t both = both
  turns-alike row (suc k) f g same s t both = turns-alike row k f g same (taking row s f) (taking row t g) (same-at (λ s. taking row s f) (λ s. taking row s g) (taking-same row f g same) s t both)

  mutual
    -- the statements of a body, and one statement
    pub run-same : (acts : Acts) → Same (run r acts) (run r acts)
    run-same no_acts = record { from = λ l m n agree. alike l m n agree }
    run-same (act row a acts) = record { from = λ l m n agree. same-at (run r acts) (run r acts) (run-same acts) (ran r row a (at l m)) (ran r row a (at l n)) ((ran-same row a).from l m n agree) }

    pub ran-same : (row : ℕ) (a : Act) → Same (ran r row a) (ran r row a)
    ran-same row (plain p) = taking-same row _ _ (performed-same row p)
    ran-same row (choice e a b) = taking-same row _ _
        (record {
          from = λ l m n agree. upon-alike row _ _ (ap (λ z. then z as_flag) (evaluated-agree l.env.names r m n agree e)) l m n agree _ _
              (λ holds. cond-alike holds _ _ _ _ ((scoped-same _ _ (run-same a)).from l m n agree) ((scoped-same _ _ (run-same b)).from l m n agree));
        })
    ran-same row (repeat e a) = taking-same row _ _
        (record {
          from = λ l m n agree. upon-alike row _ _ (ap (λ z. then z as_count) (evaluated-agree l.env.names r m n agree e)) l m n agree _ _
              (λ k. turns-alike row k _ _ (scoped-same _ _ (run-same a)) (at l m) (at l n) (alike l m n agree));
        })

  -- all that is left
  pub finish-alike : (ps : List Piece) (s t : State) → Alike r s t → Alike r (finish r ps s) (finish r ps t)
  finish-alike [] s t both = both
  finish-alike (rest k acts ∷ ps) s t both = finish-alike ps _ _ (same-at (keeping k) (keeping k) (keeping-same k) _ _ (same-at (run r acts) (run r acts) (run-same acts) s t both))
  finish-alike (turning row n a ∷ ps) s t both = finish-alike ps _ _ (turns-alike row n (scoped (run r a)) (scoped (run r a)) (scoped-same (run r a) (run r a) (run-same a)) s t both)

  machine_at-alike : (p q : Point) (m n : Resources) → p ≡ q → EqualAt r m n → AlikeAt r (machine_at p m) (machine_at q n)
  machine_at-alike p q m n e agree = record { pieces = ap (λ (j : Point). j.pieces) e; state = record { here = ap (λ (j : Point). j.here) e; resources = agree } }

  followed_by-alike : (x y : Machine) (ps : List Piece) → AlikeAt r x y → AlikeAt r (followed_by x ps) (followed_by y ps)
  followed_by-alike x y ps both = machine_at-alike _ _ x.state.resources y.state.resources
      (ap (λ (qs : List Piece). next_point (qs ++ ps) x.state.here) both.pieces ∙ ap (λ (l : Local). next_point (y.pieces ++ ps) l) both.state.here) both.state.resources

  chosen-alike : (row : ℕ) (x : Result Bool Fault) (a b : Acts) (l : Local) (m n : Resources) → EqualAt r m n → AlikeAt r (chosen row x a b (at l m)) (chosen row x a b (at l n))
  chosen-alike row (Ok v) a b l m n agree = record { pieces = refl; state = record { here = refl; resources = agree } }
  chosen-alike row (Err fault) a b l m n agree = record { pieces = refl; state = record { here = refl; resources = agree } }

  counted-alike : (row : ℕ) (x : Result ℕ Fault) (a : Acts) (l : Local) (m n : Resources) → EqualAt r m n → AlikeAt r (counted row x a (at l m)) (counted row x a (at l n))
  counted-alike row (Ok v) a l m n agree = record { pieces = refl; state = record { here = refl; resources = agree } }
  counted-alike row (Err fault) a l m n agree = record { pieces = refl; state = record { here = refl; resources = agree } }

  begin-alike : (row : ℕ) (a : Act) (l : Local) (m n : Resources) → EqualAt r m n → AlikeAt r (begin r row a (at l m)) (begin r row a (at l n))
  begin-alike row (plain p) l m n agree = record { pieces = refl; state = (performed-same row p).from l m n agree }
  begin-alike row (choice e a b) l m n agree =
      subst (λ (z : Result Bool Fault). AlikeAt r (chosen row (then (evaluated l.env.names m r e) as_flag) a b (at l m)) (chosen row z a b (at l n)))
      (ap (λ z. then z as_flag) (evaluated-agree l.env.names r m n agree e)) (chosen-alike row _ a b l m n agree)
  begin-alike row (repeat e a) l m n agree =
      subst (λ (z : Result ℕ Fault). AlikeAt r (counted row (then (evaluated l.env.names m r e) as_count) a (at l m)) (counted row z a (at l n)))
      (ap (λ z. then z as_count) (evaluated-agree l.env.names r m n agree e)) (counted-alike row _ a l m n agree)

  step_at-alike : (ps : List Piece) (k : ℕ) (l : Local) (m n : Resources) → EqualAt r m n → AlikeAt r (step_at r ps k (at l m)) (step_at r ps k (at l n))
  step_at-alike [] k l m n agree = record { pieces = refl; state = alike l m n agree }
  step_at-alike (rest j no_acts ∷ ps) k l m n agree = record { pieces = refl; state = alike l m n agree }
  step_at-alike (rest j (act row a acts) ∷ ps) zero l m n agree = record { pieces = refl; state = record { here = refl; resources = agree } }
  step_at-alike (rest j (act row a acts) ∷ ps) (suc k) l m n agree = followed_by-alike _ _ (rest j acts ∷ ps) (begin-alike row a (with_steps k l) m n agree)
  step_at-alike (turning row zero a ∷ ps) k l m n agree = record { pieces = refl; state = alike l m n agree }
  step_at-alike (turning row (suc t) a ∷ ps) zero l m n agree = record { pieces = refl; state = record { here = refl; resources = agree } }
  step_at-alike (turning row (suc t) a ∷ ps) (suc k) l m n agree = machine_at-alike _ _ m n refl agree

  -- one step does the same over both
  pub step-alike : (p : Point) (m n : Resources) → EqualAt r m n → AlikeAt r (step r (machine_at p m)) (step r (machine_at p n))
  step-alike p m n agree =
      elim (is_well p.here.ending) as (λ b. AlikeAt r (cond b (step_at r p.pieces p.here.env.steps (at p.here m)) (machine_at p m))
      (cond b (step_at r p.pieces p.here.env.steps (at p.here n)) (machine_at p n))) [
        | true ↦ step_at-alike p.pieces p.here.env.steps p.here m n agree
        | false ↦ machine_at-alike p p m n refl agree
      ]
