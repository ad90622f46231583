-- The object that is asked calls with notes obeys the laws of objects.
use Rattle.camp_object.specs.Objects.{Sequential, IsLawfulObject}
use Rattle.camp_member.specs.Notes.{noting}

pub noting_is_lawful : {State Call Reply : Type 0} (object : Sequential State Call Reply) → IsLawfulObject object → IsLawfulObject (noting object)
noting_is_lawful object lawful = record {
  starts = lawful.starts;
  counts = λ state noted. lawful.counts state noted.call;
  begins = lawful.begins;
  stays = λ state noted. lawful.stays state noted.call;
  writes = λ state noted. lawful.writes state noted.call;
  tells = lawful.tells;
  tells_exactly = lawful.tells_exactly;
  tells_none = λ state noted. lawful.tells_none state noted.call;
}
