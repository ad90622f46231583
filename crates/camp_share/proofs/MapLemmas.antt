-- The finite maps of sorted entries, and how edits of the entries change them.
use Rattle.camp_share.proofs.Words.{◌≡◌, ℕ, T, None, List, length, set, sym, ap, subst, ◌∙◌, insert, remove, Ordering, IsTotalOrder, IsAntisymmetric, entries-from_sorted, get-from_sorted, len-entries, is_sorted, find, map_of, IsAt, WouldBeAt}
use Rattle.std.specs.FinMap as map
use Rattle.camp_share.proofs.Entries.{map_inserted, map_replaced, map_removed, map_kept, absent}

module _ {K X : Type 0} (R : K → K → Ordering) (o : IsTotalOrder R) (inside now : List (K × X)) (is : inside ≡ now) (sorted : T (is_sorted R inside)) where
  pub in_order : T (is_sorted R now)
  in_order = subst (λ es. T (is_sorted R es)) is sorted

  pub entries_are : map.entries (map_of R now) ≡ inside
  entries_are = entries-from_sorted R now in_order ∙ sym is

  pub len_is : (n : ℕ) → n ≡ length inside → n ≡ map.len (map_of R now)
  len_is n told = told ∙ sym (len-entries _ ∙ ap length entries_are)

  pub get_is : (key : K) → map.get (map_of R now) key ≡ find R key inside
  get_is key = get-from_sorted R now key in_order ∙ ap (find R key) (sym is)

  -- the map of edited entries
  edited : (edit : map.FinMap R X → map.FinMap R X) (done after : List (K × X)) → after ≡ done → T (is_sorted R done) × (map_of R done ≡ edit (map_of R inside)) → T (is_sorted R after) × (map_of R after ≡ edit (map_of R now))
  edited edit done after becomes made = subst (λ es. T (is_sorted R es) × (map_of R es ≡ edit (map_of R now))) (sym becomes) (made.0, made.1 ∙ ap (λ es. edit (map_of R es)) is)

  pub insertion : (entry : K × X) (place : ℕ) (after : List (K × X)) → WouldBeAt R inside entry.0 place → after ≡ insert inside place entry → T (is_sorted R after) × (map_of R after ≡ map.insert (map_of R now) entry.0 entry.1)
  insertion entry place after gap becomes = edited (λ m. map.insert m entry.0 entry.1) _ after becomes (map_inserted R o inside entry.0 entry.1 place gap sorted)

  pub replacement : (entry : K × X) (place : ℕ) (after : List (K × X)) → IsAt inside entry.0 place → after ≡ set inside place entry → T (is_sorted R after) × (map_of R after ≡ map.insert (map_of R now) entry.0 entry.1)
  replacement entry place after here becomes = edited (λ m. map.insert m entry.0 entry.1) _ after becomes (map_replaced R o inside entry.0 entry.1 place here sorted)

  pub removal : IsAntisymmetric R → (key : K) (place : ℕ) (after : List (K × X)) → IsAt inside key place → after ≡ remove inside place → T (is_sorted R after) × (map_of R after ≡ map.remove (map_of R now) key)
  removal same key place after here becomes = edited (λ m. map.remove m key) _ after becomes (map_removed R o same inside key place here sorted)

  -- a key that is not in the map
  pub missing : (key : K) (place : ℕ) → WouldBeAt R inside key place → map.get (map_of R now) key ≡ None
  missing key place gap = get_is key ∙ absent R o inside key place gap sorted

  pub nothing_removed : IsAntisymmetric R → (key : K) (place : ℕ) (after : List (K × X)) → WouldBeAt R inside key place → after ≡ now → map_of R after ≡ map.remove (map_of R now) key
  nothing_removed same key place after gap becomes = ap (map_of R) becomes ∙ map_kept R o same (map_of R now) key (missing key place gap)
