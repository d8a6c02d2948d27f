-- What clap makes of words in form: one word after the other.
use Rattle.std.proofs.Common.{◌≡◌, refl, sym, ap, subst, ◌∙◌, ℕ, ◌+◌, ◌<◌, ◌≤◌, Bool, true, false, not, cond, List, [], ◌∷◌, ◌++◌, length, Option, Some, None, true≢false, arith, append-nil, append_assoc}
use Rattle.std.specs.Prelude.{min, fold}
use Rattle.std.specs.Str.{bytes_eq}
use Rattle.clap.specs.Lexer.{long_of, usize_max}
use Rattle.clap.specs.Walk.{Held, Row, Walk, has_row, idle, option, reacted, settled, settled_rows, walked, word_met}
use Rattle.clap.specs.Takes.{settle_passes, step_passes, word_passes, turn_passes, walk_passes}
use Rattle.clap.specs.Simple.{Shape}
use Rattle.plan_request.specs.words.Words.{Text, Word, value, opens, gives, other, word_of, flag_of, flag_with, Item, positional, given, behind, is_among, is_plain, may_stand, positionals_of, read, read_as}
use Rattle.plan_request.specs.words.Table.{IsTable, built_option, name_at, row, rows_from}
use Rattle.plan_request.proofs.lemmas.words.Single.{and_both, and_false, and_parts, flag_met, flag_passes, has_row_push, or_false, or_parts, plain_met, plain_passes, same_text, text_refl, use_new, used_new, value_met}

-- ---- what a word is

flag_opens_at : (m : Text) (o : Option Text) (n : Text) → flag_with m o ≡ opens n → ◌≡◌ {A = Text × Option Text} (m, o) (n, None)
flag_opens_at m None n e = let same : m ≡ n = cc in λ i. (same i, None)
flag_opens_at m (Some v) n e = (elim (is_plain v) as (λ b. cond b (gives m v) other ≡ opens n → ◌≡◌ {A = Text × Option Text} (m, Some v) (n, None)) [
  | true ↦ λ h. absurd (let k : gives m v ≡ opens n = h in cc)
  | false ↦ λ h. absurd (let k : other ≡ opens n = h in cc)
]) e

flag_opens : (o : Option (Text × Option Text)) (n : Text) → flag_of o ≡ opens n → o ≡ Some (n, None)
flag_opens None n e = absurd (let k : other ≡ opens n = e in cc)
flag_opens (Some p) n e = ap Some (flag_opens_at p.0 p.1 n e)

flag_gives_at : (m : Text) (o : Option Text) (n v : Text) → flag_with m o ≡ gives n v → ◌≡◌ {A = Text × Option Text} (m, o) (n, Some v)
flag_gives_at m None n v e = absurd (let k : opens m ≡ gives n v = e in cc)
flag_gives_at m (Some u) n v e = (elim (is_plain u) as (λ b. cond b (gives m u) other ≡ gives n v → ◌≡◌ {A = Text × Option Text} (m, Some u) (n, Some v)) [
  | true ↦ λ h. (let k : gives m u ≡ gives n v = h in let a : m ≡ n = cc in let b : u ≡ v = cc in λ i. (a i, Some (b i)))
  | false ↦ λ h. absurd (let k : other ≡ gives n v = h in cc)
]) e

flag_gives : (o : Option (Text × Option Text)) (n v : Text) → flag_of o ≡ gives n v → o ≡ Some (n, Some v)
flag_gives None n v e = absurd (let k : other ≡ gives n v = e in cc)
flag_gives (Some p) n v e = ap Some (flag_gives_at p.0 p.1 n v e)

flag_is_no_value : (o : Option (Text × Option Text)) → flag_of o ≡ value → ⊥
flag_is_no_value None e = cc
flag_is_no_value (Some p) e = at_pair p.0 p.1 e
  where
    at_pair : (m : Text) (o : Option Text) → flag_with m o ≡ value → ⊥
    at_pair m None e = cc
    at_pair m (Some u) e = (elim (is_plain u) as (λ b. cond b (gives m u) other ≡ value → ⊥) [
      | true ↦ λ h. (let k : gives m u ≡ value = h in cc)
      | false ↦ λ h. (let k : other ≡ value = h in cc)
    ]) e

value_is : (w : Text) → word_of w ≡ value → is_plain w ≡ true
value_is w e = (elim (is_plain w) as (λ b. cond b value (flag_of (long_of w)) ≡ value → b ≡ true) [
  | true ↦ λ h. refl
  | false ↦ λ h. absurd (flag_is_no_value (long_of w) h)
]) e

opens_is : (w n : Text) → word_of w ≡ opens n → long_of w ≡ Some (n, None)
opens_is w n e = (elim (is_plain w) as (λ b. cond b value (flag_of (long_of w)) ≡ opens n → long_of w ≡ Some (n, None)) [
  | true ↦ λ h. absurd (let k : value ≡ opens n = h in cc)
  | false ↦ λ h. flag_opens (long_of w) n h
]) e

gives_is : (w n v : Text) → word_of w ≡ gives n v → long_of w ≡ Some (n, Some v)
gives_is w n v e = (elim (is_plain w) as (λ b. cond b value (flag_of (long_of w)) ≡ gives n v → long_of w ≡ Some (n, Some v)) [
  | true ↦ λ h. absurd (let k : value ≡ gives n v = h in cc)
  | false ↦ λ h. flag_gives (long_of w) n v h
]) e

-- ---- what a word gives

pub behind_some : (i : Item) (o : Option (List Item)) (items : List Item) → behind i o ≡ Some items → (rest : List Item) × (o ≡ Some rest) × (items ≡ i ∷ rest)
behind_some i None items e = absurd (let k : None ≡ Some items = e in cc)
behind_some i (Some rest) items e = (rest, refl, let k : Some (i ∷ rest) ≡ Some items = e in cc)

not_among : (name : Text) (names : List Text) → not (is_among name names) ≡ true → is_among name names ≡ false
not_among name names e = (elim (is_among name names) as (λ b. not b ≡ true → b ≡ false) [ true ↦ λ h. absurd (true≢false (sym h)) | false ↦ λ h. refl ]) e

pub if_some : {X : Type 0} (b : Bool) (o : Option X) (x : X) → cond b o None ≡ Some x → (b ≡ true) × (o ≡ Some x)
if_some true o x e = (refl, e)
if_some false o x e = absurd (let k : None ≡ Some x = e in cc)

pub data Reads (os seen : List Text) (w : Text) (ws : List Text) (items : List Item) : Type 0 where
  a_value : (rest : List Item) → is_plain w ≡ true → read os seen None ws ≡ Some rest → items ≡ positional w ∷ rest → Reads os seen w ws items
  an_open : (n : Text) → long_of w ≡ Some (n, None) → is_among n os ≡ true → is_among n seen ≡ false → read os (seen ++ n ∷ []) (Some n) ws ≡ Some items → Reads os seen w ws items
  a_given : (n v : Text) (rest : List Item) → long_of w ≡ Some (n, Some v) → is_among n os ≡ true → is_among n seen ≡ false → read os (seen ++ n ∷ []) None ws ≡ Some rest
      → items ≡ given n v ∷ rest → Reads os seen w ws items

module _ (os seen : List Text) (w : Text) (ws : List Text) (items : List Item) where
  by_word : (x : Word) → word_of w ≡ x
      → read_as os seen w x (read os seen None ws) (λ n. read os (seen ++ n ∷ []) (Some n) ws) (λ n. read os (seen ++ n ∷ []) None ws) ≡ Some items → Reads os seen w ws items
  by_word value is e = let r = behind_some (positional w) _ items e in a_value r.0 (value_is w is) r.1 r.2
  by_word (opens n) is e =
      let c = if_some (may_stand os seen n) _ items e in
      let m = and_parts _ _ c.0 in
      an_open n (opens_is w n is) m.0 (not_among n seen m.1) c.1
  by_word (gives n v) is e =
      let c = if_some (may_stand os seen n) _ items e in
      let m = and_parts _ _ c.0 in
      let r = behind_some (given n v) _ items c.1 in
      a_given n v r.0 (gives_is w n v is) m.0 (not_among n seen m.1) r.1 r.2
  by_word other is e = absurd (let k : None ≡ Some items = e in cc)

  pub reads : read os seen None (w ∷ ws) ≡ Some items → Reads os seen w ws items
  reads e = by_word (word_of w) refl e

-- ---- the walk

abbrev pub quiet : Held → ℕ → Walk
quiet h k = record { held = h; waiting = idle; position = k + 1; is_trailing = false; stopped = None }

abbrev pub opened : Held → Text → ℕ → Walk
opened h n k = record { held = h; waiting = option n; position = k + 1; is_trailing = false; stopped = None }

module _ (s : Shape) (os ps : List Text) (t : IsTable s.rules os ps) where
  abbrev again : Bool
  again = s.args_override_self

  abbrev pub rows_held : Held → List Row
  rows_held h = settled_rows s.rules h.pending h.rows

  -- one step of the walk, from what is held to what is held with more rows
  pub record Moves (w : Walk) (word : Text) (w' : Walk) (h : Held) (rows : List Row) : Type 0 where
    pub walks : walked s.rules [] w word ≡ w'
    pub turn : turn_passes s [] w word ≡ true
    pub settles : settle_passes s.rules s.args_override_self h ≡ true
    pub has : rows_held h ≡ rows

  below_max : (k : ℕ) → k < length ps → min (k + 1 + 1) usize_max ≡ k + 1 + 1
  below_max k lt = let f = t.few in omega arith

  step_positional : (h : Held) (k : ℕ) (v : Text) → is_plain v ≡ true → k < length ps → settle_passes s.rules s.args_override_self h ≡ true
      → has_row (name_at ps k) (rows_held h) ≡ false
      → (h' : Held) × Moves (quiet h k) v (quiet h' (k + 1)) h' (rows_held h ++ row (name_at ps k) v ∷ [])
  unfolding walked
  step_positional h k v plain lt settles new =
      let p = name_at ps k in
      let h' : Held = record (settled s.rules h) { pending = Some (p, v ∷ []) } in (
        h',
        record {
          walks = rw (plain_met s h (k + 1) v plain, t.index k lt, and_false, below_max k lt) refl;
          turn = and_both _ _ (plain_passes s h idle v plain) (rw (plain_met s h (k + 1) v plain, t.index k lt, and_false) settles);
          settles = rw (t.place k lt) (use_new s.args_override_self None (Some (k + 1)) p v (rows_held h) new);
          has = rw (t.place k lt) (used_new None (Some (k + 1)) p v (rows_held h) new);
        },
      )

  step_given : (h : Held) (k : ℕ) (w n v : Text) → long_of w ≡ Some (n, Some v) → is_among n os ≡ true → settle_passes s.rules s.args_override_self h ≡ true
      → has_row n (rows_held h) ≡ false
      → (h' : Held) × Moves (quiet h k) w (quiet h' k) h' (rows_held h ++ row n v ∷ [])
  unfolding walked
  step_given h k w n v is among settles new = (
    reacted s.rules (built_option n) (v ∷ []) h,
    record {
      walks = rw (flag_met s h (k + 1) w n (Some v) is, t.long n among) refl;
      turn =
          let passes : word_passes s [] false idle w h ≡ true = rw (flag_passes s h w n (Some v) is, t.long n among) (and_both _ _ settles (use_new s.args_override_self (Some n) None n v (rows_held h) new)) in
          let steps : step_passes s (k + 1) (word_met s.rules [] false idle (k + 1) w h).0 (word_met s.rules [] false idle (k + 1) w h).1 ≡ true = rw (flag_met s h (k + 1) w n (Some v) is, t.long n among) refl in
          and_both _ _ passes steps;
      settles = refl;
      has = used_new (Some n) None n v (rows_held h) new;
    },
  )

  step_open : (h : Held) (k : ℕ) (w n : Text) → long_of w ≡ Some (n, None) → is_among n os ≡ true → settle_passes s.rules s.args_override_self h ≡ true
      → (walked s.rules [] (quiet h k) w ≡ opened (record { rows = rows_held h; pending = Some (n, []); skip = h.skip }) n k) × (turn_passes s [] (quiet h k) w ≡ true)
  unfolding walked
  step_open h k w n is among settles =
      let passes : word_passes s [] false idle w h ≡ true = rw (flag_passes s h w n None is, t.long n among) settles in
      let steps : step_passes s (k + 1) (word_met s.rules [] false idle (k + 1) w h).0 (word_met s.rules [] false idle (k + 1) w h).1 ≡ true = rw (flag_met s h (k + 1) w n None is, t.long n among) refl in
      (rw (flag_met s h (k + 1) w n None is, t.long n among) refl, and_both _ _ passes steps)

  step_value : (rs : List Row) (skip k : ℕ) (n v : Text) → is_plain v ≡ true → is_among n os ≡ true → has_row n rs ≡ false
      → (h' : Held) × Moves (opened (record { rows = rs; pending = Some (n, []); skip = skip }) n k) v (quiet h' k) h' (rs ++ row n v ∷ [])
  unfolding walked
  step_value rs skip k n v plain among new =
      let h : Held = record { rows = rs; pending = Some (n, []); skip = skip } in (
        record { rows = rs; pending = Some (n, v ∷ []); skip = skip },
        record {
          walks = rw (value_met s h (k + 1) n v plain, t.id n among, text_refl n) refl;
          turn = and_both _ _ (plain_passes s h (option n) v plain) (rw (value_met s h (k + 1) n v plain) refl);
          settles = rw (t.id n among) (use_new s.args_override_self (Some n) None n v rs new);
          has = rw (t.id n among) (used_new (Some n) None n v rs new);
        },
      )

  -- no row has the name of an option that may still stand, or of a positional word that may still come
  pub record IsFresh (rows : List Row) (seen : List Text) (k : ℕ) : Type 0 where
    pub named : (n : Text) → is_among n os ≡ true → is_among n seen ≡ false → has_row n rows ≡ false
    pub placed : (j : ℕ) → k ≤ j → j < length ps → has_row (name_at ps j) rows ≡ false

  pub differ : (n m : Text) (names : List Text) → is_among n names ≡ true → is_among m names ≡ false → bytes_eq n m ≡ false
  differ n m names is isnt = (elim (bytes_eq n m) as (λ b. bytes_eq n m ≡ b → b ≡ false) [
    | true ↦ λ h. absurd (true≢false (sym is ∙ ap (λ x. is_among x names) (same_text n m h) ∙ isnt))
    | false ↦ λ h. refl
  ]) refl

  among_parts : (m n : Text) (seen : List Text) → is_among m (seen ++ n ∷ []) ≡ false → (is_among m seen ≡ false) × (bytes_eq n m ≡ false)
  among_parts m n [] e = (refl, (or_parts (bytes_eq n m) false e).0)
  among_parts m n (x ∷ seen) e =
      let p = or_parts (bytes_eq x m) (is_among m (seen ++ n ∷ [])) e in
      let q = among_parts m n seen p.1 in
      (or_false (bytes_eq x m) (is_among m seen) p.0 q.0, q.1)

  fresh_named : (rows : List Row) (seen : List Text) (k : ℕ) (n v : Text) → IsFresh rows seen k → is_among n os ≡ true → IsFresh (rows ++ row n v ∷ []) (seen ++ n ∷ []) k
  fresh_named rows seen k n v f among = record {
    named = λ m is isnt. let p = among_parts m n seen isnt in has_row_push m n v rows (f.named m is p.0) p.1;
    placed = λ j le lt. has_row_push (name_at ps j) n v rows (f.placed j le lt) (differ n (name_at ps j) os among (t.apart j lt));
  }

  pub flip : (a b : Text) → bytes_eq b a ≡ false → bytes_eq a b ≡ false
  flip a b e = (elim (bytes_eq a b) as (λ x. bytes_eq a b ≡ x → x ≡ false) [
    | true ↦ λ h. absurd (true≢false (sym (text_refl b) ∙ ap (λ x. bytes_eq b x) (sym (same_text a b h)) ∙ e))
    | false ↦ λ h. refl
  ]) refl

  fresh_placed : (rows : List Row) (seen : List Text) (k : ℕ) (v : Text) → IsFresh rows seen k → k < length ps → IsFresh (rows ++ row (name_at ps k) v ∷ []) seen (k + 1)
  fresh_placed rows seen k v f lt = record {
    named = λ m is isnt. has_row_push m (name_at ps k) v rows (f.named m is isnt) (flip (name_at ps k) m (differ m (name_at ps k) os is (t.apart k lt)));
    placed = λ j le below. has_row_push (name_at ps j) (name_at ps k) v rows (f.placed j (omega arith) below) (t.distinct k j (omega arith) below);
  }

  -- what the walk over words makes of the rows that were held
  pub record IsRead (w : Walk) (ws : List Text) (rows : List Row) : Type 0 where
    pub holds : rows_held (fold (walked s.rules []) w ws).held ≡ rows
    pub settles : settle_passes s.rules s.args_override_self (fold (walked s.rules []) w ws).held ≡ true
    pub turns : walk_passes s [] w ws ≡ true
    pub goes_on : (fold (walked s.rules []) w ws).stopped ≡ None

  read_end : (h : Held) (k : ℕ) → settle_passes s.rules s.args_override_self h ≡ true → IsRead (quiet h k) [] (rows_held h)
  unfolding walk_passes
  read_end h k settles = record { holds = refl; settles = settles; turns = refl; goes_on = refl }

  -- one word before the others
  read_more : (w : Walk) (word : Text) (ws : List Text) (rows : List Row) (w' : Walk) → walked s.rules [] w word ≡ w' → turn_passes s [] w word ≡ true → IsRead w' ws rows
      → IsRead w (word ∷ ws) rows
  unfolding walk_passes
  read_more w word ws rows w' is turn r = subst (λ x. IsRead x ws rows → IsRead w (word ∷ ws) rows) is (λ r. record {
    holds = r.holds;
    settles = r.settles;
    turns = and_both _ _ turn r.turns;
    goes_on = r.goes_on;
  }) r

  joined : (rs : List Row) (r : Row) (rest all : List Row) (w : Walk) (ws : List Text) → all ≡ r ∷ rest → IsRead w ws ((rs ++ r ∷ []) ++ rest) → IsRead w ws (rs ++ all)
  joined rs r rest all w ws is read = subst (IsRead w ws) (append_assoc rs (r ∷ []) rest ∙ ap (λ l. rs ++ l) (sym is)) read

  moved : (w : Walk) (word : Text) (ws : List Text) (w' : Walk) (h : Held) (rows rest : List Row) → Moves w word w' h rows → IsRead w' ws (rows_held h ++ rest) → IsRead w (word ∷ ws) (rows ++ rest)
  moved w word ws w' h rows rest m r = read_more w word ws (rows ++ rest) w' m.walks m.turn (subst (λ l. IsRead w' ws (l ++ rest)) m.has r)

  fresh_held : (h : Held) (rows : List Row) (seen : List Text) (k : ℕ) → rows_held h ≡ rows → IsFresh rows seen k → IsFresh (rows_held h) seen k
  fresh_held h rows seen k is f = subst (λ l. IsFresh l seen k) (sym is) f

  mutual
    pub read_quiet : (ws : List Text) (seen : List Text) (h : Held) (k : ℕ) (items : List Item) → read os seen None ws ≡ Some items
        → settle_passes s.rules s.args_override_self h ≡ true → IsFresh (rows_held h) seen k → k + length (positionals_of items) ≤ length ps
        → IsRead (quiet h k) ws (rows_held h ++ rows_from ps k items)
    read_quiet [] seen h k items e settles fresh fits =
        let none : [] ≡ items = let x : Some [] ≡ Some items = e in cc in
        subst (λ l. IsRead (quiet h k) [] (rows_held h ++ rows_from ps k l)) none (subst (IsRead (quiet h k) []) (sym (append-nil (rows_held h))) (read_end h k settles))
    read_quiet (w ∷ ws) seen h k items e settles fresh fits = elim (reads os seen w ws items e) [
      | a_value rest plain then is ↦ (
          let fits' : k + length (positionals_of (positional w ∷ rest)) ≤ length ps = subst (λ l. k + length (positionals_of l) ≤ length ps) is fits in
          let below : k < length ps = omega arith in
          let m = step_positional h k w plain below settles (fresh.placed k (omega arith) below) in
          let fresh' = fresh_held m.0 _ seen (k + 1) m.1.has (fresh_placed (rows_held h) seen k w fresh below) in
          let rest_read = read_quiet ws seen m.0 (k + 1) rest then m.1.settles fresh' (omega arith) in
          joined (rows_held h) (row (name_at ps k) w) (rows_from ps (k + 1) rest) (rows_from ps k items) (quiet h k) (w ∷ ws) (ap (rows_from ps k) is)
          (moved (quiet h k) w ws (quiet m.0 (k + 1)) m.0 (rows_held h ++ row (name_at ps k) w ∷ []) (rows_from ps (k + 1) rest) m.1 rest_read)
          )
      | an_open n is among new then ↦ (
          let m = step_open h k w n is among settles in
          read_more (quiet h k) w ws (rows_held h ++ rows_from ps k items) (opened (record { rows = rows_held h; pending = Some (n, []); skip = h.skip }) n k) m.0 m.1
          (read_opened ws seen (rows_held h) h.skip k n items then among (fresh.named n among new) fresh fits)
          )
      | a_given n v rest is among new then whole ↦ (
          let fits' : k + length (positionals_of (given n v ∷ rest)) ≤ length ps = subst (λ l. k + length (positionals_of l) ≤ length ps) whole fits in
          let m = step_given h k w n v is among settles (fresh.named n among new) in
          let fresh' = fresh_held m.0 _ (seen ++ n ∷ []) k m.1.has (fresh_named (rows_held h) seen k n v fresh among) in
          let rest_read = read_quiet ws (seen ++ n ∷ []) m.0 k rest then m.1.settles fresh' fits' in
          joined (rows_held h) (row n v) (rows_from ps k rest) (rows_from ps k items) (quiet h k) (w ∷ ws) (ap (rows_from ps k) whole)
          (moved (quiet h k) w ws (quiet m.0 k) m.0 (rows_held h ++ row n v ∷ []) (rows_from ps k rest) m.1 rest_read)
          )
    ]

    pub read_opened : (ws : List Text) (seen : List Text) (rs : List Row) (skip k : ℕ) (n : Text) (items : List Item) → read os (seen ++ n ∷ []) (Some n) ws ≡ Some items
        → is_among n os ≡ true → has_row n rs ≡ false → IsFresh rs seen k → k + length (positionals_of items) ≤ length ps
        → IsRead (opened (record { rows = rs; pending = Some (n, []); skip = skip }) n k) ws (rs ++ rows_from ps k items)
    read_opened [] seen rs skip k n items e among new fresh fits = absurd (let x : None ≡ Some items = e in cc)
    read_opened (w ∷ ws) seen rs skip k n items e among new fresh fits =
        let plain = if_some (is_plain w) _ items e in
        let r = behind_some (given n w) _ items plain.1 in
        let fits' : k + length (positionals_of (given n w ∷ r.0)) ≤ length ps = subst (λ l. k + length (positionals_of l) ≤ length ps) r.2 fits in
        let start : Walk = opened (record { rows = rs; pending = Some (n, []); skip = skip }) n k in
        let m = step_value rs skip k n w plain.0 among new in
        let fresh' = fresh_held m.0 _ (seen ++ n ∷ []) k m.1.has (fresh_named rs seen k n w fresh among) in
        let rest_read = read_quiet ws (seen ++ n ∷ []) m.0 k r.0 r.1 m.1.settles fresh' fits' in
        joined rs (row n w) (rows_from ps k r.0) (rows_from ps k items) start (w ∷ ws) (ap (rows_from ps k) r.2)
        (moved start w ws (quiet m.0 k) m.0 (rs ++ row n w ∷ []) (rows_from ps k r.0) m.1 rest_read)
