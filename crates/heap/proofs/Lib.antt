mod MovedLaws
