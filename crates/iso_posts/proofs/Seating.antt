-- How the seats of a pool grow by one worker.
use Rattle.std.proofs.Common.{◌-◌, ◌≤◌, ◌≡◌, ◌<◌, ◌⊎◌, inl, inr, ℕ, zero, suc, ◌+◌, List, [], ◌∷◌, ◌++◌, length, map, take, drop, slice_get, slice_set, Some, None, sym, refl, ap, ◌∙◌, subst, ⊎_elim, arith}
use Rattle.iso_posts.specs.Accounts.{DequeId, OwnerView, ThiefView, new_owner, new_thief}
use Rattle.iso_posts.specs.Seats.{ArePosts, deques, without}
use Rattle.iso_posts.specs.declared.posts.PostSeat.{PostSeat}

-- a seat, without the address of its list
abbrev pub Seen : Type 0
Seen = OwnerView × List ThiefView

abbrev pub seen : PostSeat → Seen
seen seat = (seat.owner, seat.thieves.items)

abbrev pub deque_of : Seen → DequeId
deque_of s = s.0.deque

-- a seat after it was met by a worker with this deque
abbrev pub met : DequeId → Seen → Seen
met deque s = (record s.0 { thieves = s.0.thieves + 1 }, s.1 ++ new_thief deque ∷ [])

-- the first so many seats were met, and the others stand as they stood
abbrev pub AreMet : DequeId → ℕ → List PostSeat → List PostSeat → Type 0
AreMet deque at before after = map seen after ≡ map (met deque) (take at (map seen before)) ++ drop at (map seen before)

none_some : {A : Type 0} {x : A} → None ≡ Some x → ⊥
none_some e = cc

nothing_starts : {A : Type 0} {x : A} {xs : List A} → x ∷ xs ≡ [] → ⊥
nothing_starts e = cc

heads : {A : Type 0} {x y : A} {xs ys : List A} → x ∷ xs ≡ y ∷ ys → x ≡ y
heads e = cc

tails : {A : Type 0} {x y : A} {xs ys : List A} → x ∷ xs ≡ y ∷ ys → xs ≡ ys
tails e = cc

conses : {A : Type 0} {x y : A} {xs ys : List A} → x ≡ y → xs ≡ ys → x ∷ xs ≡ y ∷ ys
conses e es = cc

-- what stands at the place that comes next stands as it stood
pub next_is : (deque : DequeId) (before after : List PostSeat) (at : ℕ) (seat : PostSeat) → AreMet deque at before after → slice_get after at ≡ Some seat
    → slice_get (map seen before) at ≡ Some (seen seat)
next_is deque before [] at seat is there = absurd (none_some there)
next_is deque [] (a ∷ after) zero seat is there = absurd (nothing_starts is)
next_is deque [] (a ∷ after) (suc at) seat is there = absurd (nothing_starts is)
next_is deque (b ∷ before) (a ∷ after) zero seat is there = let same : a ≡ seat = cc in ap Some (sym (heads is) ∙ ap seen same)
next_is deque (b ∷ before) (a ∷ after) (suc at) seat is there = next_is deque before after at seat (tails is) there

pub meets_next : (deque : DequeId) (before after : List PostSeat) (at : ℕ) (seat new : PostSeat) → AreMet deque at before after → slice_get after at ≡ Some seat
    → seen new ≡ met deque (seen seat) → AreMet deque (suc at) before (slice_set after at new)
meets_next deque before [] at seat new is there one = absurd (none_some there)
meets_next deque [] (a ∷ after) zero seat new is there one = absurd (nothing_starts is)
meets_next deque [] (a ∷ after) (suc at) seat new is there one = absurd (nothing_starts is)
meets_next deque (b ∷ before) (a ∷ after) zero seat new is there one =
    let same : a ≡ seat = cc in
    conses (one ∙ ap (met deque) (ap seen (sym same) ∙ heads is)) (tails is)
meets_next deque (b ∷ before) (a ∷ after) (suc at) seat new is there one = conses (heads is) (meets_next deque before after at seat new (tails is) there one)

pub thief_more : (before : List PostSeat) (at : ℕ) (seat : PostSeat) → slice_get (map seen before) at ≡ Some (seen seat)
    → map new_thief (map deque_of (take at (map seen before))) ++ new_thief seat.owner.deque ∷ [] ≡ map new_thief (map deque_of (take (suc at) (map seen before)))
thief_more [] at seat is = absurd (none_some is)
thief_more (b ∷ before) zero seat is = let same : seen b ≡ seen seat = cc in ap (λ (s : Seen). new_thief (deque_of s) ∷ []) (sym same)
thief_more (b ∷ before) (suc at) seat is = ap (λ thieves. new_thief b.owner.deque ∷ thieves) (thief_more before at seat is)

-- when all were met, each stands as it stood, but for that
taken_all : {A : Type 0} (xs : List A) (at : ℕ) → length xs ≤ at → (take at xs ≡ xs) × (drop at xs ≡ [])
taken_all [] zero le = (refl, refl)
taken_all [] (suc at) le = (refl, refl)
taken_all (x ∷ xs) zero le = absurd (omega arith)
taken_all (x ∷ xs) (suc at) le = let rest = taken_all xs at (omega arith) in (ap (λ ys. x ∷ ys) rest.0, rest.1)

seen_length : (seats : List PostSeat) → length (map seen seats) ≡ length seats
seen_length [] = refl
seen_length (s ∷ seats) = ap suc (seen_length seats)

append_nothing : {A : Type 0} (xs : List A) → xs ++ [] ≡ xs
append_nothing [] = refl
append_nothing (x ∷ xs) = ap (λ ys. x ∷ ys) (append_nothing xs)

all_met : (deque : DequeId) (before after : List PostSeat) (at : ℕ) → length before ≤ at → AreMet deque at before after
    → (map seen after ≡ map (met deque) (map seen before)) × (take at (map seen before) ≡ map seen before)
all_met deque before after at le is =
    let olds : List Seen = map seen before in
    let count = seen_length before in
    let all = taken_all olds at (omega arith) in
    (is ∙ ap (λ (xs : List Seen). map (met deque) xs ++ drop at olds) all.0 ∙ ap (λ (xs : List Seen). map (met deque) olds ++ xs) all.1 ∙ append_nothing (map (met deque) olds), all.0)

met_length : (deque : DequeId) (before after : List PostSeat) → map seen after ≡ map (met deque) (map seen before) → length after ≡ length before
met_length deque [] [] is = refl
met_length deque [] (a ∷ after) is = absurd (nothing_starts is)
met_length deque (b ∷ before) [] is = absurd (nothing_starts (sym is))
met_length deque (b ∷ before) (a ∷ after) is = ap suc (met_length deque before after (tails is))

met_deques : (deque : DequeId) (before after : List PostSeat) → map seen after ≡ map (met deque) (map seen before) → deques after ≡ deques before
met_deques deque [] [] is = refl
met_deques deque [] (a ∷ after) is = absurd (nothing_starts is)
met_deques deque (b ∷ before) [] is = absurd (nothing_starts (sym is))
met_deques deque (b ∷ before) (a ∷ after) is = conses (ap deque_of (heads is)) (met_deques deque before after (tails is))

met_seat : (deque : DequeId) (before after : List PostSeat) (w : ℕ) (seat : PostSeat) → map seen after ≡ map (met deque) (map seen before) → slice_get after w ≡ Some seat
    → (old : PostSeat) × (slice_get before w ≡ Some old) × (seen seat ≡ met deque (seen old)) × (w < length before)
met_seat deque before [] w seat is there = absurd (none_some there)
met_seat deque [] (a ∷ after) w seat is there = absurd (nothing_starts is)
met_seat deque (b ∷ before) (a ∷ after) zero seat is there = let same : a ≡ seat = cc in (b, refl, ap seen (sym same) ∙ heads is, omega arith)
met_seat deque (b ∷ before) (a ∷ after) (suc w) seat is there =
    let rest = met_seat deque before after w seat (tails is) there in
    (rest.0, rest.1, rest.2, (let below = rest.3 in omega arith))

-- lists with one element more
at_snoc : {A : Type 0} (xs : List A) (x y : A) (w : ℕ) → slice_get (xs ++ x ∷ []) w ≡ Some y → (slice_get xs w ≡ Some y) ⊎ ((w ≡ length xs) × (x ≡ y))
at_snoc [] x y zero is = let same : x ≡ y = cc in inr (refl, same)
at_snoc [] x y (suc w) is = absurd (none_some is)
at_snoc (z ∷ xs) x y zero is = inl is
at_snoc (z ∷ xs) x y (suc w) is = ⊎_elim (λ (old : slice_get xs w ≡ Some y). inl old) (λ (new : (w ≡ length xs) × (x ≡ y)). inr (ap suc new.0, new.1)) (at_snoc xs x y w is)

length_snoc : {A : Type 0} (xs : List A) (x : A) → length (xs ++ x ∷ []) ≡ length xs + 1
length_snoc [] x = refl
length_snoc (y ∷ xs) x = omega (arith, length_snoc xs x)

map_snoc : {A B : Type 0} (f : A → B) (xs : List A) (x : A) → map f (xs ++ x ∷ []) ≡ map f xs ++ f x ∷ []
map_snoc f [] x = refl
map_snoc f (y ∷ xs) x = ap (λ ys. f y ∷ ys) (map_snoc f xs x)

without_more : {A : Type 0} (xs : List A) (x : A) (w : ℕ) → w < length xs → without w (xs ++ x ∷ []) ≡ without w xs ++ x ∷ []
without_more [] x w below = absurd (omega arith)
without_more (y ∷ xs) x zero below = refl
without_more (y ∷ xs) x (suc w) below = ap (λ ys. y ∷ ys) (without_more xs x w (omega arith))

without_last : {A : Type 0} (xs : List A) (x : A) → without (length xs) (xs ++ x ∷ []) ≡ xs
without_last [] x = refl
without_last (y ∷ xs) x = ap (λ ys. y ∷ ys) (without_last xs x)

-- the deques of all seats, with the last one's
grown_deques : (deque : DequeId) (before after : List PostSeat) (last : PostSeat) → map seen after ≡ map (met deque) (map seen before) → last.owner.deque ≡ deque
    → deques (after ++ last ∷ []) ≡ deques before ++ deque ∷ []
grown_deques deque before after last is own =
    map_snoc (λ (seat : PostSeat). seat.owner.deque) after last
    ∙ ap (λ (x : List DequeId × DequeId). x.0 ++ x.1 ∷ []) (λ i. (met_deques deque before after is i, own i))

seen_deques : (seats : List PostSeat) → map deque_of (map seen seats) ≡ deques seats
seen_deques [] = refl
seen_deques (s ∷ seats) = ap (λ ds. s.owner.deque ∷ ds) (seen_deques seats)

deques_length : (seats : List PostSeat) → length (deques seats) ≡ length seats
deques_length [] = refl
deques_length (s ∷ seats) = ap suc (deques_length seats)

-- of a seat that was there, its owner and its thieves in the grown pool
old_owner : (deque : DequeId) (n : ℕ) (old seat : PostSeat) → 0 < n → seen seat ≡ met deque (seen old) → old.owner ≡ new_owner old.owner.deque (n - 1)
    → seat.owner ≡ new_owner seat.owner.deque n
old_owner deque n old seat some is was =
    let now : seat.owner ≡ record old.owner { thieves = old.owner.thieves + 1 } = ap (λ (s : Seen). s.0) is in
    let count : old.owner.thieves + 1 ≡ n = let before : old.owner.thieves ≡ n - 1 = ap (λ (o : OwnerView). o.thieves) was in omega arith in
    let same : seat.owner.deque ≡ old.owner.deque = ap (λ (o : OwnerView). o.deque) now in
    now
    ∙ ap (λ (o : OwnerView). record o { thieves = old.owner.thieves + 1 }) was
    ∙ ap (new_owner old.owner.deque) count
    ∙ ap (λ d. new_owner d n) (sym same)

old_thieves : (deque : DequeId) (w : ℕ) (ds : List DequeId) (old seat : PostSeat) → w < length ds → seen seat ≡ met deque (seen old)
    → old.thieves.items ≡ map new_thief (without w ds) → seat.thieves.items ≡ map new_thief (without w (ds ++ deque ∷ []))
old_thieves deque w ds old seat below is was =
    ap (λ (s : Seen). s.1) is
    ∙ ap (λ thieves. thieves ++ new_thief deque ∷ []) was
    ∙ sym (map_snoc new_thief (without w ds) deque)
    ∙ ap (map new_thief) (sym (without_more ds deque w below))

-- what a round of the loop does to the seat that it meets, to the new owner and to the new thieves
met_length_so_far : {A : Type 0} (f : A → A) (xs : List A) (at : ℕ) → length (map f (take at xs) ++ drop at xs) ≡ length xs
met_length_so_far f [] zero = refl
met_length_so_far f [] (suc at) = refl
met_length_so_far f (x ∷ xs) zero = refl
met_length_so_far f (x ∷ xs) (suc at) = ap suc (met_length_so_far f xs at)

pub same_number : (deque : DequeId) (before after : List PostSeat) (at : ℕ) → AreMet deque at before after → length after ≡ length before
same_number deque before after at is =
    sym (seen_length after) ∙ ap (λ (s : List Seen). length s) is ∙ met_length_so_far (met deque) (map seen before) at ∙ seen_length before

pub goes_on : (deque : DequeId) (before after : List PostSeat) (at : ℕ) (seat new : PostSeat) (owner : OwnerView) (from_owner : ThiefView)
    → AreMet deque at before after → slice_get after at ≡ Some seat → owner ≡ new_owner deque at
    → new.owner ≡ record seat.owner { thieves = seat.owner.thieves + 1 } → new.thieves.items ≡ seat.thieves.items ++ from_owner ∷ [] → from_owner ≡ new_thief owner.deque
    → AreMet deque (at + 1) before (slice_set after at new)
goes_on deque before after at seat new owner from_owner met_all there is counted items thief =
    let own : owner.deque ≡ deque = ap (λ (o : OwnerView). o.deque) is in
    let thieves : new.thieves.items ≡ seat.thieves.items ++ new_thief deque ∷ [] =
    items ∙ ap (λ t. seat.thieves.items ++ t ∷ []) (thief ∙ ap new_thief own) in
    let next : suc at ≡ at + 1 = omega arith in
    subst (λ n. AreMet deque n before (slice_set after at new)) next
    (meets_next deque before after at seat new met_all there (λ i. (counted i, thieves i)))

pub new_thieves_go_on : (deque : DequeId) (before after : List PostSeat) (at : ℕ) (seat : PostSeat) (thieves longer : List ThiefView) (from_seat : ThiefView)
    → AreMet deque at before after → slice_get after at ≡ Some seat → thieves ≡ map new_thief (map deque_of (take at (map seen before)))
    → longer ≡ thieves ++ from_seat ∷ [] → from_seat ≡ new_thief seat.owner.deque
    → longer ≡ map new_thief (map deque_of (take (at + 1) (map seen before)))
new_thieves_go_on deque before after at seat thieves longer from_seat met_all there is items thief =
    let next : suc at ≡ at + 1 = omega arith in
    items
    ∙ ap (λ (x : List ThiefView × ThiefView). x.0 ++ x.1 ∷ []) (λ i. (is i, thief i))
    ∙ thief_more before at seat (next_is deque before after at seat met_all there)
    ∙ ap (λ n. map new_thief (map deque_of (take n (map seen before)))) next

pub grown : (deque : DequeId) (before after : List PostSeat) (last : PostSeat) (at : ℕ) → ArePosts (length before) before → at ≡ length before
    → AreMet deque at before after → last.owner ≡ new_owner deque at → last.thieves.items ≡ map new_thief (map deque_of (take at (map seen before)))
    → ArePosts (length before + 1) (after ++ last ∷ [])
grown deque before after last at posts count met_all owner thieves =
    let all = all_met deque before after at (omega arith) met_all in
    let own : last.owner.deque ≡ deque = ap (λ (o : OwnerView). o.deque) owner in
    let now = grown_deques deque before after last all.0 own in
    let many = met_length deque before after all.0 in
    record {
      number = (let longer : length (after ++ last ∷ []) ≡ length after + 1 = length_snoc after last in omega arith);
      owners = (λ w seat there.
          ⊎_elim
          (λ (was : slice_get after w ≡ Some seat).
          let old = met_seat deque before after w seat all.0 was in
          let n : length before + 1 - 1 ≡ length before = omega arith in
          let some : 0 < length before = let below = old.3 in omega arith in
          old_owner deque (length before) old.0 seat some old.2 (posts.owners w old.0 old.1) ∙ ap (new_owner seat.owner.deque) (sym n))
          (λ (is : (w ≡ length after) × (last ≡ seat)).
          let n : at ≡ length before + 1 - 1 = omega arith in
          subst (λ (s : PostSeat). s.owner ≡ new_owner s.owner.deque (length before + 1 - 1)) is.1
          (owner ∙ ap (λ d. new_owner d at) (sym own) ∙ ap (new_owner last.owner.deque) n))
          (at_snoc after last seat w there));
      thieves = (λ w seat there.
          ⊎_elim
          (λ (was : slice_get after w ≡ Some seat).
          let old = met_seat deque before after w seat all.0 was in
          let below : w < length (deques before) = let short = old.3 in let same = deques_length before in omega arith in
          old_thieves deque w (deques before) old.0 seat below old.2 (posts.thieves w old.0 old.1)
          ∙ ap (λ ds. map new_thief (without w ds)) (sym now))
          (λ (is : (w ≡ length after) × (last ≡ seat)).
          let place : w ≡ length (deques before) = let same = deques_length before in let at_end = is.0 in omega arith in
          subst (λ (s : PostSeat). s.thieves.items ≡ map new_thief (without w (deques (after ++ last ∷ [])))) is.1
          (thieves
          ∙ ap (λ (s : List Seen). map new_thief (map deque_of s)) all.1
          ∙ ap (map new_thief)
          (seen_deques before
          ∙ sym (without_last (deques before) deque)
          ∙ ap (λ k. without k (deques before ++ deque ∷ [])) (sym place)
          ∙ ap (without w) (sym now))))
          (at_snoc after last seat w there));
    }
