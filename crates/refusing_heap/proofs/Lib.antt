mod RefusesCalled
