-- Plain catches of different patches and of different files commute unchanged.
use Rattle.std.proofs.Common.{◌≡◌, ◌∙◌, [], inl, refl, sym, ap, true, false, true≢false}
use Rattle.camp_prim.specs.Commuting.{Commute}
use Rattle.camp_prim.specs.declared.named.Named.{Named}
use Rattle.camp_catch.specs.Inside.Hashes.{hash_of, HashesDiffer, HasHashes}
use Rattle.camp_catch.specs.Inside.QuickChecks.{CommutesGaining}
use Rattle.camp_catch.specs.declared.catches.Catch.{Catch}
use Rattle.camp_catch.specs.declared.catches.Catch.TheVariants.{Plain}
use Rattle.camp_catch.specs.declared.fast.hashes.CatchHashes.{CatchHashes}

plain_stays : (a b : Named) (m n : CatchHashes) → HasHashes (Plain a) m → HasHashes (Plain b) n → HashesDiffer m n → Commute a b b a
plain_stays a b m n first second apart = record {
  anywhere = record {
    apart = λ same. apart.patches (ap (λ x. x.patch) first.exact ∙ ap (λ key. hash_of key.name) same ∙ sym (ap (λ x. x.patch) second.exact));
    change = inl (record {
      paths = λ same. apart.files (ap (λ x. x.file) first.exact ∙ ap hash_of same ∙ sym (ap (λ x. x.file) second.exact));
      second = refl;
      first = refl;
    });
    second = refl;
    first = refl;
  };
  ranges = (first.ranged, second.ranged, second.ranged, first.ranged);
}

not_plain : (m : CatchHashes) → m.is_plain ≡ true → m.is_plain ≡ false → ⊥
not_plain m plain other = true≢false (sym plain ∙ other)

-- whatever conflicts the first of the two has gained
pub apart_pass : (j k : Catch) (m n : CatchHashes) → HasHashes j m → HasHashes k n → HashesDiffer m n → CommutesGaining j k k []
apart_pass (Plain a) (Plain b) m n first second apart before =
    record { b' = b; a' = a; swap = plain_stays a b m n first second apart; second = refl; first = refl }
apart_pass (Plain a) (Catch.Conflictor k) m n first second apart before =
    absurd (not_plain n apart.other_plain (ap (λ x. x.is_plain) second.exact))
apart_pass (Catch.Conflictor j) k m n first second apart before =
    absurd (not_plain m apart.plain (ap (λ x. x.is_plain) first.exact))
